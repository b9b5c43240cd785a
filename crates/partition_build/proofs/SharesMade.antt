-- The shares that are made of rooms are those of the rules.
use Rattle.std.proofs.Common.{◌≡◌, ℕ, zero, suc, ◌+◌, ◌<◌, Bool, true, cond, ◌==◌, List, [], ◌∷◌, ◌++◌, length, map, slice_index, slice_index_or, Vec, Global, Result, Ok, Err, IfOk, refl, sym, ap, ◌∙◌, subst, append_assoc, arith}
use Rattle.std.specs.List.{All, filter, range_with_len}
use Rattle.std.proofs.lemmas.List.Elements.{All-filter}
use Rattle.std.proofs.lemmas.List.Kept.{IsNonDecreasingBy-filter}
use Rattle.graph_model.specs.declared.edge.Edge.{Edge}
use Rattle.graph_model.specs.Graph.{Graph, IsGraph, IsWithin}
use Rattle.edge_owner.specs.declared.rules.Rules.{Rules}
use Rattle.graph_division.specs.Shares.{Share, in_file_order}
use Rattle.cusp_rules.specs.Hosts.{IsHostCount}
use Rattle.graph_division.specs.Partition.{IsPartition}
use Rattle.graph_division.proofs.Grouped.{gathered-sorted}
use Rattle.share_plan.specs.Plan.{Plan, owner_by, plan_of}
use Rattle.share_plan.specs.Owners.{owner_at, share_at, shares_of}
use Rattle.share_plan.proofs.Partitions.{rises-IsBySource, shares_are_partition}
use Rattle.partition_build.specs.Rooms.{owned_by, contents, AreRooms, share_by, shares_from, edges_from, shares_by_source}

-- tests that agree on a list pick the same
pub filter_agree : {X : Type 0} (p q : X → Bool) (xs : List X) → All (λ x. p x ≡ q x) xs → filter p xs ≡ filter q xs
filter_agree p q [] agree = refl
filter_agree p q (x ∷ xs) agree =
    ap (λ b. cond b (x ∷ filter p xs) (filter p xs)) (agree 0 x (omega arith))
    ∙ ap (λ ys. cond (q x) (x ∷ ys) ys) (filter_agree p q xs (λ k d within. agree (suc k) d (omega arith)))

-- a test that all pass keeps all
pub filter_all : {X : Type 0} (p : X → Bool) (xs : List X) → All (λ x. p x ≡ true) xs → filter p xs ≡ xs
filter_all p [] passes = refl
filter_all p (x ∷ xs) passes =
    ap (λ b. cond b (x ∷ filter p xs) (filter p xs)) (passes 0 x (omega arith))
    ∙ ap (λ ys. x ∷ ys) (filter_all p xs (λ k d within. passes (suc k) d (omega arith)))

-- what holds of an answer
pub IfOk-map : {X E : Type 0} (r : Result X E) (P Q : X → Type 0) → ((x : X) → P x → Q x) → IfOk r P → IfOk r Q
IfOk-map (Ok x) P Q follows p = follows x p
IfOk-map (Err e) P Q follows p = tt

-- the same in each place
map-range_same : {X : Type 0} (f g : ℕ → X) (first count : ℕ) → ((k : ℕ) → f k ≡ g k) → map f (range_with_len first count) ≡ map g (range_with_len first count)
map-range_same f g first zero same = refl
map-range_same f g first (suc count) same = ap (λ x. x ∷ map f (range_with_len (first + 1) count)) (same first) ∙ ap (λ xs. g first ∷ xs) (map-range_same f g (first + 1) count same)

-- one graph more: what is done, and what is still to come
pub shares_more : (plan : Plan) (nodes : ℕ) (done : List Share) (room : Vec Edge Global) (rooms : List (Vec Edge Global)) (share : Share)
    → share ≡ share_by plan nodes (length done) room.items
    → (done ++ share ∷ []) ++ shares_from plan nodes (length done + 1) rooms ≡ done ++ shares_from plan nodes (length done) (room ∷ rooms)
shares_more plan nodes done room rooms share is =
    append_assoc done (share ∷ []) (shares_from plan nodes (length done + 1) rooms)
    ∙ ap (λ s. done ++ s ∷ shares_from plan nodes (length done + 1) rooms) is

module _ (rules : Rules) (hosts : ℕ) (graph : Graph) (is : IsGraph graph) (plan : Plan) (of_graph : plan ≡ plan_of rules hosts graph)
    (owners : All (λ edge. owner_by plan edge ≡ owner_at rules hosts graph edge) graph.edges) where
  -- edges that a host owns by the plan stand by source already
  in_order : (host : ℕ) → in_file_order graph.nodes (owned_by (owner_by plan) host graph.edges) ≡ owned_by (owner_by plan) host graph.edges
  in_order host =
      let own = λ (edge : Edge). owner_by plan edge == host in
      gathered-sorted (λ edge. edge.src) 0 graph.nodes (filter own graph.edges)
      (IsNonDecreasingBy-filter (λ edge. edge.src) own graph.edges (rises-IsBySource graph.edges is.by_source))
      (λ k d within. omega arith)
      (λ k d within. let below = (All-filter own (IsWithin graph.nodes) graph.edges is.within k d within).0 in omega (arith, below))

  -- and are those that it owns by the rules
  owned_alike : (host : ℕ) → owned_by (owner_by plan) host graph.edges ≡ (share_at rules hosts graph host).edges
  owned_alike host =
      filter_agree (λ edge. owner_by plan edge == host) (λ edge. owner_at rules hosts graph edge == host) graph.edges
      (λ k d within. ap (λ owner. owner == host) (owners k d within))

  -- the share of a host with the edges that it owns
  share-made : (host : ℕ) (edges : List Edge) → edges ≡ owned_by (owner_by plan) host graph.edges → share_by plan graph.nodes host edges ≡ share_at rules hosts graph host
  share-made host edges holds =
      ap (λ (p : Plan). share_by p graph.nodes host edges) of_graph
      ∙ ap (λ (es : List Edge). record { host = host; hosts = hosts; masters = (plan_of rules hosts graph).masters; edges = es }) (ap (in_file_order graph.nodes) holds ∙ in_order host ∙ owned_alike host)

  -- those of all rooms from one on
  shares_from-is : (first : ℕ) (rooms : List (Vec Edge Global))
      → ((k : ℕ) → k < length rooms → slice_index_or (contents rooms) k [] ≡ owned_by (owner_by plan) (first + k) graph.edges)
      → shares_from plan graph.nodes first rooms ≡ map (share_at rules hosts graph) (range_with_len first (length rooms))
  shares_from-is first [] holds = refl
  shares_from-is first (room ∷ rooms) holds =
      ap (λ share. share ∷ shares_from plan graph.nodes (first + 1) rooms)
      (share-made first room.items (holds 0 (omega arith) ∙ ap (λ h. owned_by (owner_by plan) h graph.edges) (let e : first + 0 ≡ first = omega arith in e)))
      ∙ ap (λ shares. share_at rules hosts graph first ∷ shares)
      (shares_from-is (first + 1) rooms (λ k within. holds (suc k) (omega arith) ∙ ap (λ h. owned_by (owner_by plan) h graph.edges) (let e : first + suc k ≡ first + 1 + k = omega arith in e)))

  -- as many hosts
  count : plan.hosts ≡ hosts
  count = ap (λ (p : Plan). p.hosts) of_graph

  -- those of the rooms of all hosts
  pub shares_of_rooms : (rooms : List (Vec Edge Global)) → AreRooms plan graph.edges rooms → shares_from plan graph.nodes 0 rooms ≡ shares_of rules hosts graph
  shares_of_rooms rooms are =
      let as_many = are.as_many in
      shares_from-is 0 rooms (λ k within. are.owned k (omega (arith, as_many)) ∙ ap (λ h. owned_by (owner_by plan) h graph.edges) (let e : k ≡ 0 + k = omega arith in e))
      ∙ ap (λ n. map (share_at rules hosts graph) (range_with_len 0 n)) (as_many ∙ count)

  -- those of hosts that have the edges of the vertices whose master they are, where sources own
  pub shares_of_sources : ((edge : Edge) → IsWithin graph.nodes edge → owner_by plan edge ≡ slice_index plan.masters edge.src) → shares_by_source plan graph plan.hosts ≡ shares_of rules hosts graph
  shares_of_sources sources =
      map-range_same (λ host. share_by plan graph.nodes host (edges_from plan graph host)) (share_at rules hosts graph) 0 plan.hosts
      (λ host. share-made host (edges_from plan graph host)
      (filter_agree (λ edge. slice_index plan.masters edge.src == host) (λ edge. owner_by plan edge == host) graph.edges
      (λ k d within. ap (λ owner. owner == host) (sym (sources (slice_index_or graph.edges k d) (is.within k d within))))))
      ∙ ap (λ n. map (share_at rules hosts graph) (range_with_len 0 n)) count

  -- what is shared out so is a partition
  pub shared-partition : {X E : Type 0} (items : X → List Share) (result : Result X E) → IsHostCount hosts → IfOk result (λ x. items x ≡ shares_of rules hosts graph) → IfOk result (λ x. IsPartition (items x))
  shared-partition items result count shared =
      IfOk-map result (λ x. items x ≡ shares_of rules hosts graph) (λ x. IsPartition (items x))
      (λ x are. subst IsPartition (sym are) (shares_are_partition rules hosts graph count is)) shared
