-- By three of the rules for owners, what mirrors lack.
use Rattle.std.proofs.Common.{◌≡◌, ℕ, zero, suc, ◌+◌, ◌<◌, ◌≤◌, Bool, true, false, cond, not, ◌&&◌, ◌||◌, ◌==◌, List, [], ◌∷◌, map, slice_index_or, refl, sym, ap, ◌∙◌, inl, inr, arith}
use Rattle.std.specs.List.{All, filter, list_any, list_all, range_with_len}
use Rattle.std.proofs.lemmas.Bool.{and_parts, eqb-true}
use Rattle.std.proofs.lemmas.Bool.Decides.{eqb_tells}
use Rattle.graph_model.specs.declared.edge.Edge.{Edge}
use Rattle.graph_model.specs.declared.edge.Way.TheVariants.{Outward}
use Rattle.graph_model.specs.Arcs.{out_arc}
use Rattle.graph_model.specs.Graph.{Graph, IsGraph, IsWithin}
use Rattle.cusp_rules.specs.Hosts.{IsHostCount}
use Rattle.edge_owner.specs.declared.rules.Rules.{Rules}
use Rattle.edge_owner.specs.declared.owner_rule.OwnerRule.TheVariants.{Source, Dest, Cartesian}
use Rattle.edge_owner.specs.Grid.{row_of, column_of, host_in}
use Rattle.edge_owner.proofs.Places.{both_ways-master}
use Rattle.graph_division.specs.Lists.{is_readable, is_writable, is_mirror}
use Rattle.graph_division.specs.Shares.{Share, nodes_of, seen, mirrors_here}
use Rattle.graph_division.specs.Classes.{has_out, has_in, has_both, no_mirror}
use Rattle.graph_division.proofs.Partitions.{list_any-made}
use Rattle.share_plan.specs.Owners.{master_at, owner_at, share_at, shares_of}
use Rattle.share_plan.specs.Laws.{SourceHasNoOut, DestHasNoIn, CartesianHasNoBoth}
use Rattle.share_plan.proofs.OwnersLaws.{masters, length-masters, master-is, master-below}

-- where what is picked from a range passes, all that is picked does
all_picked : (pick test : ℕ → Bool) (first count : ℕ) → ((v : ℕ) → first ≤ v → v < first + count → pick v ≡ true → test v ≡ true) → list_all test (filter pick (range_with_len first count)) ≡ true
all_picked pick test first zero passes = refl
all_picked pick test first (suc count) passes = step (pick first) refl (all_picked pick test (first + 1) count (λ v low high. passes v (omega arith) (omega arith)))
  where
    step : (b : Bool) → pick first ≡ b → list_all test (filter pick (range_with_len (first + 1) count)) ≡ true
        → list_all test (cond b (first ∷ filter pick (range_with_len (first + 1) count)) (filter pick (range_with_len (first + 1) count))) ≡ true
    step true picked rest = ap (λ b. b && list_all test (filter pick (range_with_len (first + 1) count))) (passes first (omega arith) (omega arith) picked) ∙ rest
    step false picked rest = rest

-- what cannot be is not
denied : (b : Bool) → (b ≡ true → ⊥) → not b ≡ true
denied true never = absurd (never refl)
denied false never = refl

-- where each share of a range passes, all do
all_shares : (test : Share → Bool) (share : ℕ → Share) (first count : ℕ) → ((host : ℕ) → host < first + count → test (share host) ≡ true) → list_all test (map share (range_with_len first count)) ≡ true
all_shares test share first zero passes = refl
all_shares test share first (suc count) passes =
    ap (λ b. b && list_all test (map share (range_with_len (first + 1) count))) (passes first (omega arith))
    ∙ all_shares test share (first + 1) count (λ host within. passes host (omega arith))

-- an edge that passes two tests
record Passing (nodes : ℕ) (own test : Edge → Bool) : Type 0 where
  edge : Edge
  within : IsWithin nodes edge
  owned : own edge ≡ true
  passes : test edge ≡ true

-- where an edge of those that are owned passes, there is one
passing : (nodes : ℕ) (own test : Edge → Bool) (edges : List Edge) → All (IsWithin nodes) edges → list_any test (filter own edges) ≡ true → Passing nodes own test
passing nodes own test [] within some = absurd (cc)
passing nodes own test (edge ∷ edges) within some =
    step (own edge) (test edge) refl refl (passing nodes own test edges (λ k d below. within (suc k) d (omega arith))) some
  where
    step : (a b : Bool) → own edge ≡ a → test edge ≡ b → (list_any test (filter own edges) ≡ true → Passing nodes own test)
        → list_any test (cond a (edge ∷ filter own edges) (filter own edges)) ≡ true → Passing nodes own test
    step true true owned passes rest some = record { edge = edge; within = within 0 edge (omega arith); owned = owned; passes = passes }
    step true false owned passes rest some = rest (ap (λ c. c || list_any test (filter own edges)) (sym passes) ∙ some)
    step false b owned passes rest some = rest some

module _ (rules : Rules) (hosts : ℕ) (graph : Graph) (count : IsHostCount hosts) (is : IsGraph graph) where
  -- whether a host owns an edge
  abbrev own : ℕ → Edge → Bool
  own host edge = owner_at rules hosts graph edge == host

  -- the source of one of a host's edges
  out_edge : (host v : ℕ) → has_out (share_at rules hosts graph host) v ≡ true → Passing graph.nodes (own host) (λ edge. edge.src == v)
  out_edge host v out =
      passing graph.nodes (own host) (λ edge. edge.src == v) graph.edges is.within
      (sym (list_any-made (λ arc. arc.tail == v) out_arc (filter (own host) graph.edges)) ∙ out)

  -- the destination of one
  in_edge : (host v : ℕ) → has_in (share_at rules hosts graph host) v ≡ true → Passing graph.nodes (own host) (λ edge. edge.dst == v)
  in_edge host v into =
      passing graph.nodes (own host) (λ edge. edge.dst == v) graph.edges is.within
      (sym (list_any-made (λ arc. arc.head == v) out_arc (filter (own host) graph.edges)) ∙ into)

  -- where what is of a kind has its master here, no mirror is of the kind
  lacks : (kind : Share → ℕ → Bool) → ((host v : ℕ) → v < graph.nodes → kind (share_at rules hosts graph host) v ≡ true → master_at rules hosts graph v ≡ host) → no_mirror kind (shares_of rules hosts graph) ≡ true
  lacks kind master_here =
      all_shares (λ share. list_all (λ v. not (kind share v)) (mirrors_here share)) (share_at rules hosts graph) 0 hosts (λ host below.
      all_picked (is_mirror (seen Outward (share_at rules hosts graph host)) host) (λ v. not (kind (share_at rules hosts graph host) v)) 0 (nodes_of (share_at rules hosts graph host)) (λ v low high mirror.
      let within : v < graph.nodes = let long = length-masters rules hosts graph in omega (arith, long) in
      let away = (and_parts (not (slice_index_or (masters rules hosts graph) v 0 == host)) (is_readable (seen Outward (share_at rules hosts graph host)) host v || is_writable (seen Outward (share_at rules hosts graph host)) host v) mirror).0 in
      denied (kind (share_at rules hosts graph host) v) (λ kept.
      let here = master-is rules hosts graph v 0 within ∙ master_here host v within kept in
      elim (eqb_tells (slice_index_or (masters rules hosts graph) v 0) host) [
        | inl same ↦ (let wrong = ap not same.0 in cc)
        | inr other ↦ absurd (other.1 here)
      ])))

-- the edges that have what passes, told by numbers
passed : (a b : ℕ) → (a == b) ≡ true → a ≡ b
passed a b same = eqb-true a b same

pub source_has_no_out : SourceHasNoOut
source_has_no_out rule hosts graph count is =
    lacks rules hosts graph count is has_out (λ host v within out.
    let found = out_edge rules hosts graph count is host v out in
    ap (λ u. master_at rules hosts graph u) (sym (passed found.edge.src v found.passes)) ∙ passed (owner_at rules hosts graph found.edge) host found.owned)
  where
    rules : Rules
    rules = record { masters = rule; owner = Source }

pub dest_has_no_in : DestHasNoIn
dest_has_no_in rule hosts graph count is =
    lacks rules hosts graph count is has_in (λ host v within into.
    let found = in_edge rules hosts graph count is host v into in
    ap (λ u. master_at rules hosts graph u) (sym (passed found.edge.dst v found.passes)) ∙ passed (owner_at rules hosts graph found.edge) host found.owned)
  where
    rules : Rules
    rules = record { masters = rule; owner = Dest }

pub cartesian_has_no_both : CartesianHasNoBoth
cartesian_has_no_both rule hosts graph count is =
    lacks rules hosts graph count is has_both (λ host v within both.
    let parts = and_parts (has_out (share_at rules hosts graph host) v) (has_in (share_at rules hosts graph host) v) both in
    let out = out_edge rules hosts graph count is host v parts.0 in
    let into = in_edge rules hosts graph count is host v parts.1 in
    let leaves = passed out.edge.src v out.passes in
    let enters = passed into.edge.dst v into.passes in
    sym (both_ways-master hosts host (master_at rules hosts graph v) (master_at rules hosts graph out.edge.dst) (master_at rules hosts graph into.edge.src)
    (master-below rules hosts graph count is v within)
    (ap (λ u. host_in hosts (row_of hosts (master_at rules hosts graph u)) (column_of hosts (master_at rules hosts graph out.edge.dst))) (sym leaves) ∙ passed (owner_at rules hosts graph out.edge) host out.owned)
    (ap (λ u. host_in hosts (row_of hosts (master_at rules hosts graph into.edge.src)) (column_of hosts (master_at rules hosts graph u))) (sym enters) ∙ passed (owner_at rules hosts graph into.edge) host into.owned)))
  where
    rules : Rules
    rules = record { masters = rule; owner = Cartesian }
