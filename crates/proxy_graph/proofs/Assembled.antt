-- What assembling gives: the fields are those of the local graph of the share.
use Rattle.std.proofs.Common.{◌≡◌, ◌↔◌, ℕ, ◌+◌, ◌-◌, ◌<◌, ◌≤◌, true, false, Bool, cond, not, ◌&&◌, ◌||◌, ◌==◌, List, [], ◌∷◌, ◌++◌, length, map, slice_index, slice_index_or, refl, sym, ◌∙◌, ap, arith, inl, inr, subst, length-append, append-nil}
use Rattle.std.specs.List.{All, filter, list_any, range_with_len}
use Rattle.std.specs.List.Sorted.{IsStrictlyIncreasing}
use Rattle.std.proofs.lemmas.Bool.{and_parts, eq-eqb, eqb-true, ne_eqb, or_right}
use Rattle.std.proofs.lemmas.Bool.Decides.{eqb_tells}
use Rattle.std.proofs.lemmas.List.Elements.{All-head, All-map, All-tail, All-weaker, filter-append}
use Rattle.std.proofs.lemmas.List.Folds.{list_any_at}
use Rattle.std.proofs.lemmas.List.Kept.{IsStrictlyIncreasing-filter}
use Rattle.std.proofs.lemmas.List.FromFn.{length-range_with_len}
use Rattle.list_laws.specs.Among.{is_among, place_of}
use Rattle.list_laws.specs.Members.{has_member}
use Rattle.graph_model.specs.Arcs.{Arc, out_arc}
use Rattle.graph_model.specs.Graph.{IsWithin, IsBySource}
use Rattle.graph_model.specs.declared.edge.Edge.{Edge}
use Rattle.graph_model.specs.declared.edge.Way.TheVariants.{Outward, Inward}
use Rattle.graph_division.specs.Lists.{is_mirror, is_readable, is_writable}
use Rattle.graph_division.specs.Shares.{Share, IsShare, nodes_of, seen, masters_here, mirrors_here, proxies_here}
use Rattle.graph_division.proofs.PrunedLists.{range_rises}
use Rattle.graph_division.proofs.FileOrder.{joined_same, filter_none, file_order_stays}
use Rattle.proxy_graph.specs.Drafts.{AreProxies}
use Rattle.proxy_graph.specs.Heads.{lid_of, vertex_at}
use Rattle.proxy_graph.specs.Keyed.{with_key}
use Rattle.proxy_graph.specs.Runs.{KeepsArcs, arcs_at}
use Rattle.proxy_graph.specs.Sides.{Side, Out, Back, AreSorted, arc_of, arc_pair, key_of, end_of}
use Rattle.proxy_graph.specs.Sorting.{AreInArcsOf}
use Rattle.proxy_graph.specs.Numbering.{is_hosted, is_end, is_mirrored, AreMarks, AreNumbered, IsLidOf}
use Rattle.proxy_graph.specs.Kept.{edge_from, edges_of, share_of, proxies_of, AreLids, KeepsInArcs, Keeps, IsKept}
use Rattle.proxy_graph.specs.declared.local_graph.LocalGraph.TheInside.{Inside}
use Rattle.proxy_graph.specs.declared.arcs.Arcs.{Arcs}
use Rattle.proxy_graph.specs.declared.in_arcs.InArcs.{InArcs}
use Rattle.proxy_graph.specs.declared.in_arcs.InArcs.TheVariants.{Laid, Unlaid}
use Rattle.proxy_graph.proofs.Keyed.{picked_pass}
use Rattle.proxy_graph.proofs.NumberingSteps.{hosted_is}
use Rattle.proxy_graph.proofs.Rows.{columns_sorted}
use Rattle.proxy_graph.proofs.Ranges.{picked_same, picked_none, picked_all, range_parts}
use Rattle.proxy_graph.proofs.Starts.{arcs_behind}
use Rattle.proxy_graph.proofs.Lids.{hosted_true, hosted_before, hosted_behind, lid_is_place, place_is, place_none, lid_among}

-- ---- truth values

-- two truth values of which each is true where the other is
agree : (a b : Bool) → (a ≡ true → b ≡ true) → (b ≡ true → a ≡ true) → a ≡ b
agree true b to back = sym (to refl)
agree false true to back = back refl
agree false false to back = refl

-- what is denied and true is false
denied : (b : Bool) → not b ≡ true → b ≡ false
denied true h = absurd (cc)
denied false h = refl

-- ---- what tests pick from a range

-- a test that is true of a row alone picks that row
picked_row : (p : ℕ → Bool) (first count nodes : ℕ) → first + count ≤ nodes → ((v : ℕ) → v < nodes → p v ≡ is_hosted first count v) → filter p (range_with_len 0 nodes) ≡ range_with_len first count
picked_row p first count nodes fits is =
    let rest = nodes - (first + count) in
    let whole : nodes ≡ first + (count + rest) = omega arith in
    let start : 0 + first ≡ first = omega arith in
    ap (λ (n : ℕ). filter p (range_with_len 0 n)) whole
    ∙ ap (filter p) (range_parts 0 first (count + rest) ∙ ap (λ (k : ℕ). range_with_len 0 first ++ range_with_len k (count + rest)) start ∙ ap (λ xs. range_with_len 0 first ++ xs) (range_parts first count rest))
    ∙ filter-append p (range_with_len 0 first) (range_with_len first count ++ range_with_len (first + count) rest)
    ∙ ap (λ xs. xs ++ filter p (range_with_len first count ++ range_with_len (first + count) rest)) (picked_none p 0 first (λ v low high. is v (omega arith) ∙ hosted_before first count v (omega arith)))
    ∙ filter-append p (range_with_len first count) (range_with_len (first + count) rest)
    ∙ ap (λ xs. xs ++ filter p (range_with_len (first + count) rest)) (picked_all p first count (λ v low high. is v (omega arith) ∙ hosted_true first count v low high))
    ∙ ap (λ xs. range_with_len first count ++ xs) (picked_none p (first + count) rest (λ v low high. is v (omega arith) ∙ hosted_behind first count v low))
    ∙ append-nil (range_with_len first count)

-- ---- marks

-- an end of an edge is a tail or a head of an arc
ends_are : (edges : List Edge) (v : ℕ) → is_end edges v ≡ (list_any (λ arc. arc.tail == v) (map out_arc edges) || list_any (λ arc. arc.head == v) (map out_arc edges))
ends_are [] v = refl
ends_are (edge ∷ edges) v = step (edge.src == v) (edge.dst == v) (list_any (λ arc. arc.tail == v) (map out_arc edges)) (list_any (λ arc. arc.head == v) (map out_arc edges)) (is_end edges v) (ends_are edges v)
  where
    step : (a b x y r : Bool) → r ≡ (x || y) → ((a || b) || r) ≡ ((a || x) || (b || y))
    step true b x y r is = refl
    step false true true y r is = refl
    step false true false y r is = refl
    step false false x y r is = is

-- both ends of an edge are ends
record HasEnds (edges : List Edge) (edge : Edge) : Type 0 where
  source : is_end edges edge.src ≡ true
  destination : is_end edges edge.dst ≡ true

have_ends : (edges : List Edge) → All (HasEnds edges) edges
have_ends edges k d within =
    let edge = slice_index_or edges k d in
    record {
      source = list_any_at (λ e. e.src == edge.src || e.dst == edge.src) edges k d within (ap (λ b. b || (edge.dst == edge.src)) (eq-eqb edge.src edge.src refl));
      destination = list_any_at (λ e. e.src == edge.dst || e.dst == edge.dst) edges k d within (or_right (edge.src == edge.dst) (edge.dst == edge.dst) (eq-eqb edge.dst edge.dst refl));
    }

-- ---- the proxies

module _ {share : Share} {first count : ℕ} {marks : List Bool} {table mirrors : List ℕ} (are : AreProxies share first count marks table mirrors) where
  -- a vertex is in the row where its master is here
  master_here : (v : ℕ) → v < nodes_of share → (slice_index_or share.masters v 0 == share.host) ≡ is_hosted first count v
  master_here v within =
      agree (slice_index_or share.masters v 0 == share.host) (is_hosted first count v)
      (λ here. let at = (are.vertices v within).0 (eqb-true (slice_index share.masters v) share.host here) in hosted_true first count v at.0 at.1)
      (λ hosted. eq-eqb (slice_index share.masters v) share.host ((are.vertices v within).1 (hosted_is first count v hosted)))

  pub masters_are : masters_here share ≡ range_with_len first count
  masters_are = picked_row (λ v. slice_index_or share.masters v 0 == share.host) first count (nodes_of share) are.row master_here

  pub mirrors_are : mirrors_here share ≡ mirrors
  mirrors_are =
      picked_same (is_mirror (seen Outward share) share.host) (is_mirrored first count marks) 0 (nodes_of share) (λ v low high.
      let within : v < nodes_of share = omega arith in
      ap (λ b. not b && (is_readable (seen Outward share) share.host v || is_writable (seen Outward share) share.host v)) (master_here v within)
      ∙ ap (λ b. not (is_hosted first count v) && b) (sym (are.marked.marks_are v within ∙ ends_are share.edges v)))
      ∙ sym are.numbered.mirrors_are

  pub proxies_are : proxies_here share ≡ range_with_len first count ++ mirrors
  proxies_are = ap (λ xs. xs ++ mirrors_here share) masters_are ∙ ap (λ xs. range_with_len first count ++ xs) mirrors_are

  mirrors_rise : IsStrictlyIncreasing mirrors
  mirrors_rise =
      let P : List ℕ → Type 0 = IsStrictlyIncreasing in
      subst P mirrors_are (IsStrictlyIncreasing-filter (is_mirror (seen Outward share) share.host) (range_with_len 0 (nodes_of share)) (range_rises 0 (nodes_of share)))

  mirrors_apart : All (λ v. is_hosted first count v ≡ false) mirrors
  mirrors_apart =
      let P : List ℕ → Type 0 = λ xs. All (λ v. is_hosted first count v ≡ false) xs in
      let test : ℕ → Bool = is_mirrored first count marks in
      subst P (sym are.numbered.mirrors_are)
      (All-weaker (λ v. test v ≡ true) (λ v. is_hosted first count v ≡ false) (λ v passes. denied (is_hosted first count v) (and_parts (not (is_hosted first count v)) (has_member marks v) passes).0) (filter test (range_with_len 0 (nodes_of share)))
      (picked_pass test (range_with_len 0 (nodes_of share))))

  -- a proxy's number is its place
  pub lid_is : (v lid : ℕ) → IsLidOf (proxies_here share) v lid → lid_of share v ≡ lid
  lid_is v lid is =
      let P : List ℕ → Type 0 = λ xs. IsLidOf xs v lid in
      ap (λ xs. place_of xs v) proxies_are ∙ lid_is_place first count mirrors mirrors_rise mirrors_apart v lid (subst P proxies_are is)

  -- the table has the numbers of ends
  pub end_lid : (v : ℕ) → v < nodes_of share → is_end share.edges v ≡ true → IsLidOf (proxies_here share) v (slice_index table v)
  end_lid v within end =
      let P : List ℕ → Type 0 = λ xs. IsLidOf xs v (slice_index table v) in
      subst P (sym proxies_are) (are.numbered.marked v within (are.marked.marks_are v within ∙ end))

-- the table has the place of both ends of an edge
pub record IsNamed (share : Share) (table : List ℕ) (edge : Edge) : Type 0 where
  pub source : IsLidOf (proxies_here share) edge.src (slice_index table edge.src)
  pub destination : IsLidOf (proxies_here share) edge.dst (slice_index table edge.dst)

-- places are the only local numbers
abbrev pub OnlyPlaces : Share → Type 0
OnlyPlaces share = (v lid : ℕ) → IsLidOf (proxies_here share) v lid → lid_of share v ≡ lid

-- ---- the arcs

module _ (share : Share) (table : List ℕ) (only : OnlyPlaces share) where
  tail_lid : (side : Side) (edge : Edge) → IsNamed share table edge → IsLidOf (proxies_here share) (arc_of side edge).tail (key_of side table edge)
  tail_lid Out edge named = named.source
  tail_lid Back edge named = named.destination

  head_lid : (side : Side) (edge : Edge) → IsNamed share table edge → IsLidOf (proxies_here share) (arc_of side edge).head (end_of side table edge)
  head_lid Out edge named = named.destination
  head_lid Back edge named = named.source

  -- an edge has a key where its tail is the vertex of that proxy
  same_test : (side : Side) (edge : Edge) (lid : ℕ) → IsNamed share table edge → lid < length (proxies_here share) → (key_of side table edge == lid) ≡ ((arc_of side edge).tail == vertex_at share lid)
  same_test side edge lid named known =
      let is = tail_lid side edge named in
      agree (key_of side table edge == lid) ((arc_of side edge).tail == vertex_at share lid)
      (λ here. eq-eqb (arc_of side edge).tail (vertex_at share lid) (sym is.here ∙ ap (vertex_at share) (eqb-true (key_of side table edge) lid here)))
      (λ here.
      let there : IsLidOf (proxies_here share) (arc_of side edge).tail lid = record { within = known; here = sym (eqb-true (arc_of side edge).tail (vertex_at share lid) here) } in
      eq-eqb (key_of side table edge) lid (sym (only (arc_of side edge).tail (key_of side table edge) is) ∙ only (arc_of side edge).tail lid there))

  abbrev pair : Arc → ℕ × ℕ
  pair = λ arc. (lid_of share arc.head, arc.weight)

  weight_stays : (side : Side) (edge : Edge) → (arc_of side edge).weight ≡ edge.weight
  weight_stays Out edge = refl
  weight_stays Back edge = refl

  -- the sorted arcs of a key are those that the share has there
  arcs_are : (side : Side) (lid : ℕ) → lid < length (proxies_here share) → (edges : List Edge) → All (IsNamed share table) edges
      → map (arc_pair side table) (with_key (key_of side table) lid edges) ≡ map pair (filter (λ arc. arc.tail == vertex_at share lid) (map (arc_of side) edges))
  arcs_are side lid known [] named = refl
  arcs_are side lid known (edge ∷ edges) named =
      let is = All-head (IsNamed share table) edge edges named in
      let same : (end_of side table edge, edge.weight) ≡ pair (arc_of side edge)
      = ap (λ (k : ℕ). (k, edge.weight)) (sym (only (arc_of side edge).head (end_of side table edge) (head_lid side edge is))) ∙ ap (λ (w : ℕ). (lid_of share (arc_of side edge).head, w)) (sym (weight_stays side edge)) in
      ap (λ b. map (arc_pair side table) (cond b (edge ∷ with_key (key_of side table) lid edges) (with_key (key_of side table) lid edges))) (same_test side edge lid is known)
      ∙ step ((arc_of side edge).tail == vertex_at share lid) same (arcs_are side lid known edges (All-tail (IsNamed share table) edge edges named))
    where
      step : (b : Bool) → (end_of side table edge, edge.weight) ≡ pair (arc_of side edge)
          → map (arc_pair side table) (with_key (key_of side table) lid edges) ≡ map pair (filter (λ arc. arc.tail == vertex_at share lid) (map (arc_of side) edges))
          → map (arc_pair side table) (cond b (edge ∷ with_key (key_of side table) lid edges) (with_key (key_of side table) lid edges))
          ≡ map pair (cond b (arc_of side edge ∷ filter (λ arc. arc.tail == vertex_at share lid) (map (arc_of side) edges)) (filter (λ arc. arc.tail == vertex_at share lid) (map (arc_of side) edges)))
      step true same rest = ap (λ x. x ∷ map (arc_pair side table) (with_key (key_of side table) lid edges)) same ∙ ap (λ xs. pair (arc_of side edge) ∷ xs) rest
      step false same rest = rest

  pub keeps_out : (arcs : Arcs) → All (IsNamed share table) share.edges → AreSorted Out (length (proxies_here share)) table share.edges arcs → KeepsArcs Outward share arcs
  keeps_out arcs named sorted = record {
    runs = sorted.runs;
    few = sorted.few;
    all = sorted.all;
    here = λ lid known. sorted.here lid ∙ arcs_are Out lid known share.edges named;
  }

  pub keeps_back : (arcs : Arcs) → All (IsNamed share table) share.edges → AreSorted Back (length (proxies_here share)) table share.edges arcs → KeepsArcs Inward share arcs
  keeps_back arcs named sorted = record {
    runs = sorted.runs;
    few = sorted.few;
    all = sorted.all;
    here = λ lid known. sorted.here lid ∙ arcs_are Back lid known share.edges named;
  }

  -- a proxy is among the heads of arcs where its vertex is the destination of an edge
  pub heads_tell : (lid : ℕ) → lid < length (proxies_here share) → (edges : List Edge) → All (IsNamed share table) edges → is_among (map (end_of Out table) edges) lid ≡ list_any (λ arc. arc.head == vertex_at share lid) (map out_arc edges)
  heads_tell lid known [] named = refl
  heads_tell lid known (edge ∷ edges) named =
      ap (λ b. b || is_among (map (end_of Out table) edges) lid) (same_test Back edge lid (All-head (IsNamed share table) edge edges named) known)
      ∙ ap (λ b. (edge.dst == vertex_at share lid) || b) (heads_tell lid known edges (All-tail (IsNamed share table) edge edges named))

-- ---- the edges that the arcs stand for

module _ (share : Share) (arcs : Arcs) (only : OnlyPlaces share) (keeps : KeepsArcs Outward share arcs) where
  -- the edges from a vertex again
  edges_again : (v : ℕ) (edges : List Edge) → All (λ edge. is_among (proxies_here share) edge.dst ≡ true) edges
      → map (edge_from (proxies_here share) v) (map (λ arc. (lid_of share arc.head, arc.weight)) (filter (λ arc. arc.tail == v) (map out_arc edges))) ≡ filter (λ edge. edge.src == v) edges
  edges_again v [] among = refl
  edges_again v (edge ∷ edges) among = elim (eqb_tells edge.src v) [
    | inl same ↦ ap (λ b. again (cond b (out_arc edge ∷ rest) rest)) same.0
        ∙ ap (λ e. e ∷ again rest) (own same.1)
        ∙ ap (λ es. edge ∷ es) (edges_again v edges (All-tail (λ e. is_among (proxies_here share) e.dst ≡ true) edge edges among))
        ∙ ap (λ b. cond b (edge ∷ filter (λ e. e.src == v) edges) (filter (λ e. e.src == v) edges)) (sym same.0)
    | inr other ↦ ap (λ b. again (cond b (out_arc edge ∷ rest) rest)) other.0
        ∙ edges_again v edges (All-tail (λ e. is_among (proxies_here share) e.dst ≡ true) edge edges among)
        ∙ ap (λ b. cond b (edge ∷ filter (λ e. e.src == v) edges) (filter (λ e. e.src == v) edges)) (sym other.0)
  ]
    where
      rest : List Arc
      rest = filter (λ arc. arc.tail == v) (map out_arc edges)

      again : List Arc → List Edge
      again some = map (edge_from (proxies_here share) v) (map (λ arc. (lid_of share arc.head, arc.weight)) some)

      own : edge.src ≡ v → edge_from (proxies_here share) v (lid_of share edge.dst, edge.weight) ≡ edge
      own same =
          let is = place_is (proxies_here share) edge.dst (All-head (λ e. is_among (proxies_here share) e.dst ≡ true) edge edges among) in
          ap (λ (u : ℕ). record { src = u; dst = vertex_at share (lid_of share edge.dst); weight = edge.weight }) (sym same)
          ∙ ap (λ (u : ℕ). record { src = edge.src; dst = u; weight = edge.weight }) is.here

  -- a vertex with no proxy has no arcs
  no_arcs : arcs_at arcs (length (proxies_here share)) ≡ []
  no_arcs = arcs_behind arcs (length (proxies_here share)) keeps.few

  -- the edges from each vertex
  edges_from : (v : ℕ) → All (λ edge. is_among (proxies_here share) edge.src ≡ true) share.edges → All (λ edge. is_among (proxies_here share) edge.dst ≡ true) share.edges
      → map (edge_from (proxies_here share) v) (arcs_at arcs (place_of (proxies_here share) v)) ≡ filter (λ edge. edge.src == v) share.edges
  edges_from v sources destinations = split (is_among (proxies_here share) v) refl
    where
      split : (b : Bool) → is_among (proxies_here share) v ≡ b → map (edge_from (proxies_here share) v) (arcs_at arcs (place_of (proxies_here share) v)) ≡ filter (λ edge. edge.src == v) share.edges
      split true among =
          let is = place_is (proxies_here share) v among in
          ap (map (edge_from (proxies_here share) v)) (keeps.here (place_of (proxies_here share) v) is.within)
          ∙ ap (λ (u : ℕ). map (edge_from (proxies_here share) v) (map (λ arc. (lid_of share arc.head, arc.weight)) (filter (λ arc. arc.tail == u) (map out_arc share.edges)))) is.here
          ∙ edges_again v share.edges destinations
      split false missing =
          ap (λ (k : ℕ). map (edge_from (proxies_here share) v) (arcs_at arcs k)) (place_none (proxies_here share) v missing)
          ∙ ap (map (edge_from (proxies_here share) v)) no_arcs
          ∙ sym (filter_none (λ edge. edge.src == v) share.edges (All-weaker (λ edge. is_among (proxies_here share) edge.src ≡ true) (λ (edge : Edge). (edge.src == v) ≡ false) (λ edge among. ne_eqb edge.src v (λ same. let is : is_among (proxies_here share) v ≡ true = ap (is_among (proxies_here share)) (sym same) ∙ among in cc)) share.edges sources))

  pub edges_are : All (λ edge. is_among (proxies_here share) edge.src ≡ true) share.edges → All (λ edge. is_among (proxies_here share) edge.dst ≡ true) share.edges
      → All (IsWithin (nodes_of share)) share.edges → IsBySource share.edges
      → edges_of (nodes_of share) (proxies_here share) arcs ≡ share.edges
  unfolding edges_of
  edges_are sources destinations within ordered =
      joined_same (λ v. map (edge_from (proxies_here share) v) (arcs_at arcs (place_of (proxies_here share) v))) (λ v. filter (λ edge. edge.src == v) share.edges) 0 (nodes_of share) (λ v low high. edges_from v sources destinations)
      ∙ file_order_stays (nodes_of share) share.edges within ordered

-- ---- all together

-- a share of these
abbrev pub share_with : (host hosts : ℕ) (masters : List ℕ) (edges : List Edge) → Share
share_with host hosts masters edges = record { host = host; hosts = hosts; masters = masters; edges = edges }

module _ {share : Share} {first count : ℕ} {marks : List Bool} {table mirrors : List ℕ} (are : AreProxies share first count marks table mirrors) where
  names : All (IsNamed share table) share.edges
  names k d below =
      let ends = are.within k d below in
      let has = have_ends share.edges k d below in
      let edge = slice_index_or share.edges k d in
      record {
        source = end_lid are edge.src ends.0 has.source;
        destination = end_lid are edge.dst ends.1 has.destination;
      }

  pub proxies_long : length (proxies_here share) ≡ count + length mirrors
  proxies_long = omega (arith, ap length (proxies_are are), length-append (range_with_len first count) mirrors, length-range_with_len first count)

  only_places : OnlyPlaces share
  only_places = lid_is are

  -- the table gives each end a key
  pub keyed : (side : Side) → All (λ key. key < count + length mirrors) (map (key_of side table) share.edges)
  keyed side =
      All-map (λ key. key < count + length mirrors) (key_of side table) share.edges (λ k d below.
      let is = tail_lid share table only_places side (slice_index_or share.edges k d) (names k d below) in
      omega (arith, is.within, proxies_long))

-- in-arcs stand by head, or the numbers of their heads are a set
abbrev pub AreInArcs : (keys : ℕ) (table : List ℕ) → List Edge → InArcs → Type 0
AreInArcs keys table edges (Laid arcs) = AreSorted Back keys table edges arcs
AreInArcs keys table edges (Unlaid heads) = (length heads ≡ keys) × ((lid : ℕ) → has_member heads lid ≡ is_among (map (end_of Out table) edges) lid)

-- so they are where the columns tell of the edges
pub in_arcs_are : (keys : ℕ) (table : List ℕ) (edges : List Edge) (back : InArcs) (heads tails weights : List ℕ)
    → All (λ key. key < keys) (map (key_of Back table) edges) → heads ≡ map (key_of Back table) edges → tails ≡ map (end_of Back table) edges → weights ≡ map (λ (edge : Edge). edge.weight) edges
    → AreInArcsOf keys heads tails weights back → AreInArcs keys table edges back
in_arcs_are keys table edges (Laid arcs) heads tails weights known headed tailed weighed by_head = columns_sorted Back keys table edges arcs heads tails weights known headed tailed weighed by_head
in_arcs_are keys table edges (Unlaid set) heads tails weights known headed tailed weighed are = (are.0, λ lid. are.1 lid ∙ ap (λ column. is_among column lid) headed)

-- the fields are those of the share, and the arcs of its edges stand in them
pub record AreFields (share : Share) (first count : ℕ) (table mirrors : List ℕ) (graph : Inside) : Type 0 where
  pub is_share : IsShare share
  pub host : graph.host ≡ share.host
  pub hosts : graph.masters.hosts ≡ share.hosts
  pub masters : graph.masters.masters ≡ share.masters
  pub nodes : graph.nodes ≡ nodes_of share
  pub begins : graph.first ≡ first
  pub hosted : graph.count ≡ count
  pub mirrored : graph.mirrors.items ≡ mirrors
  pub out : AreSorted Out (count + length mirrors) table share.edges graph.out
  pub back : AreInArcs (count + length mirrors) table share.edges graph.back

module _ {share : Share} {first count : ℕ} {marks : List Bool} {table mirrors : List ℕ} {graph : Inside}
    (are : AreProxies share first count marks table mirrors) (fields : AreFields share first count table mirrors graph) where
  out_kept : KeepsArcs Outward share graph.out
  out_kept = keeps_out share table (only_places are) graph.out (names are) (subst (λ (keys : ℕ). AreSorted Out keys table share.edges graph.out) (sym (proxies_long are)) fields.out)

  in_arcs_kept : (back : InArcs) → AreInArcs (count + length mirrors) table share.edges back → KeepsInArcs share back
  in_arcs_kept (Laid arcs) sorted = keeps_back share table (only_places are) arcs (names are) (subst (λ (keys : ℕ). AreSorted Back keys table share.edges arcs) (sym (proxies_long are)) sorted)
  in_arcs_kept (Unlaid heads) are_heads = record {
    long = are_heads.0 ∙ sym (proxies_long are);
    heads_are = λ lid known. are_heads.1 lid ∙ heads_tell share table (only_places are) lid known share.edges (names are);
  }

  lids_kept : AreLids share
  lids_kept = record {
    only = only_places are;
    sources = All-weaker (IsNamed share table) (λ edge. is_among (proxies_here share) edge.src ≡ true) (λ edge named. lid_among (proxies_here share) edge.src (slice_index table edge.src) named.source) share.edges (names are);
    destinations = All-weaker (IsNamed share table) (λ edge. is_among (proxies_here share) edge.dst ≡ true) (λ edge named. lid_among (proxies_here share) edge.dst (slice_index table edge.dst) named.destination) share.edges (names are);
  }

  -- the fields keep the share
  built : Keeps share graph
  built = record {
    is_share = fields.is_share;
    host = sym fields.host;
    hosts = sym fields.hosts;
    masters = sym fields.masters;
    nodes = sym fields.nodes;
    masters_are = masters_are are ∙ ap (λ (k : ℕ). range_with_len k count) (sym fields.begins) ∙ ap (λ (n : ℕ). range_with_len graph.first n) (sym fields.hosted);
    mirrors_are = mirrors_are are ∙ sym fields.mirrored;
    out_arcs = out_kept;
    in_arcs = in_arcs_kept graph.back fields.back;
    lids = lids_kept;
  }

  -- and stand for it
  pub stands : share_of graph ≡ share
  stands =
      let proxies : proxies_of graph ≡ proxies_here share = sym (ap (λ xs. xs ++ mirrors_here share) built.masters_are ∙ ap (λ xs. range_with_len graph.first graph.count ++ xs) built.mirrors_are) in
      let edges : edges_of graph.nodes (proxies_of graph) graph.out ≡ share.edges
      = ap (λ (n : ℕ). edges_of n (proxies_of graph) graph.out) fields.nodes
      ∙ ap (λ ps. edges_of (nodes_of share) ps graph.out) proxies
      ∙ edges_are share graph.out (only_places are) out_kept lids_kept.sources lids_kept.destinations
      fields.is_share.within fields.is_share.by_source in
      ap (λ (h : ℕ). share_with h graph.masters.hosts graph.masters.masters (share_of graph).edges) fields.host
      ∙ ap (λ (n : ℕ). share_with share.host n graph.masters.masters (share_of graph).edges) fields.hosts
      ∙ ap (λ ms. share_with share.host share.hosts ms (share_of graph).edges) fields.masters
      ∙ ap (λ es. share_with share.host share.hosts share.masters es) edges

  pub kept_fields : IsKept graph
  kept_fields =
      let P : Share → Type 0 = λ seen. Keeps seen graph in
      subst P (sym stands) built

-- numbers of all marks are those of all nodes
pub numbered_is : (first count nodes : ℕ) (edges : List Edge) (marks : List Bool) (table mirrors : List ℕ) → AreMarks nodes edges marks → AreNumbered first count marks (length marks) table mirrors → AreNumbered first count marks nodes table mirrors
numbered_is first count nodes edges marks table mirrors marked numbered =
    let P : ℕ → Type 0 = λ n. AreNumbered first count marks n table mirrors in
    subst P marked.long numbered

-- the vertices of a host, as the lemmas take them
pub vertices_are : (first end : ℕ) (masters : List ℕ) (host : ℕ) → first ≤ end
    → ((v : ℕ) → v < length masters → (slice_index masters v ≡ host) ↔ ((first ≤ v) × (v < end)))
    → (v : ℕ) → v < length masters → (slice_index masters v ≡ host) ↔ ((first ≤ v) × (v < first + (end - first)))
vertices_are first end masters host ordered are v within = (
  λ here. let at = (are v within).0 here in (at.0, omega (arith, at.1)),
  λ at. (are v within).1 (at.0, omega (arith, at.1)),
)
