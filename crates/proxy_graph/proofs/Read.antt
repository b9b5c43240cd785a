-- What the fields of a local graph say of its share.
use Rattle.std.proofs.Common.{subst, Ok, ◌≡◌, ℕ, suc, ◌+◌, ◌<◌, ◌≤◌, true, false, Bool, cond, not, ◌&&◌, ◌||◌, ◌==◌, nat_lt, List, [], ◌∷◌, ◌++◌, length, map, drop, slice_get, slice_index, Some, refl, sym, ◌∙◌, ap, arith, inl, inr, length-append, length-drop}
use Rattle.std.specs.List.{All, filter, list_any, range_with_len, slice_index_or}
use Rattle.std.specs.List.Sorted.{IsStrictlyIncreasing, IsBinarySearchResult}
use Rattle.std.specs.Ordering.{nat_cmp}
use Rattle.std.proofs.lemmas.Bool.{cases_lt, ne_eqb, lt-ltb}
use Rattle.std.proofs.lemmas.List.Sorted.{searched}
use Rattle.list_laws.proofs.Places.{All-at}
use Rattle.list_laws.proofs.Rising.{Rises-from_increasing, in_order}
use Rattle.graph_model.specs.Graph.{most_nodes}
use Rattle.std.proofs.lemmas.List.{length-take-le, length-map, get_or_append_left, get_or-append_right}
use Rattle.std.proofs.lemmas.List.Elements.{All-append}
use Rattle.std.proofs.lemmas.List.Folds.{list_any-append, list_any_none}
use Rattle.std.proofs.lemmas.List.Kept.{IsStrictlyIncreasing-filter}
use Rattle.std.proofs.lemmas.List.FromFn.{length-range_with_len, get_or-range_with_len}
use Rattle.std.proofs.lemmas.Option.{slice_get-get_or}
use Rattle.list_laws.specs.Among.{is_among}
use Rattle.graph_model.specs.Arcs.{Arc, out_arc, in_arc, arcs_of}
use Rattle.graph_model.specs.declared.edge.Edge.{Edge}
use Rattle.graph_model.specs.declared.edge.Way.{Way}
use Rattle.graph_model.specs.declared.edge.Way.TheVariants.{Outward, Inward, Both}
use Rattle.graph_division.specs.Lists.{is_readable, is_writable, is_mirror}
use Rattle.graph_division.specs.Shares.{Share, nodes_of, seen, masters_here, mirrors_here, proxies_here}
use Rattle.graph_division.proofs.PrunedLists.{picked_below, range_rises}
use Rattle.proxy_graph.specs.Heads.{vertex_at, lid_of}
use Rattle.proxy_graph.specs.Runs.{AreRuns, KeepsArcs, arcs_at, count_at, pairs_of, start_at}
use Rattle.proxy_graph.specs.Kept.{Keeps, IsKept, share_of, proxies_of}
use Rattle.proxy_graph.specs.declared.arcs.Arcs.{Arcs}
use Rattle.proxy_graph.specs.declared.local_graph.LocalGraph.TheInside.{Inside}
use Rattle.proxy_graph.proofs.Pairs.{length-pairs}
use Rattle.proxy_graph.proofs.Starts.{arcs_behind, count_behind}

-- some element passes exactly where what passes is not empty
any_passes : {X : Type 0} (p : X → Bool) (xs : List X) → nat_lt 0 (length (filter p xs)) ≡ list_any p xs
any_passes p [] = refl
any_passes {X} p (x ∷ xs) = step (p x) (any_passes p xs)
  where
    step : (b : Bool) → nat_lt 0 (length (filter p xs)) ≡ list_any p xs → nat_lt 0 (length (cond b (x ∷ filter p xs) (filter p xs))) ≡ (b || list_any p xs)
    step true rest = lt-ltb 0 (suc (length (filter p xs))) (omega arith)
    step false rest = rest

-- no more pass two tests that nothing passes both of than there are
both_few : {X : Type 0} (p q : X → Bool) → ((x : X) → p x ≡ true → q x ≡ false) → (xs : List X) → length (filter p xs) + length (filter q xs) ≤ length xs
both_few p q apart [] = omega arith
both_few {X} p q apart (x ∷ xs) = step (p x) (q x) (apart x) (both_few p q apart xs)
  where
    step : (a b : Bool) → (a ≡ true → b ≡ false) → length (filter p xs) + length (filter q xs) ≤ length xs → length (cond a (x ∷ filter p xs) (filter p xs)) + length (cond b (x ∷ filter q xs) (filter q xs)) ≤ suc (length xs)
    step true true other rest = absurd (let no : true ≡ false = other refl in cc)
    step true false other rest = omega arith
    step false true other rest = omega arith
    step false false other rest = omega arith

-- an edge followed out leads where it starts from followed back
pub turned : (edges : List Edge) (v : ℕ) → list_any (λ arc. arc.tail == v) (map in_arc edges) ≡ list_any (λ arc. arc.head == v) (map out_arc edges)
turned [] v = refl
turned (edge ∷ edges) v = ap (λ b. (edge.dst == v) || b) (turned edges v)

pub turned_back : (edges : List Edge) (v : ℕ) → list_any (λ arc. arc.head == v) (map in_arc edges) ≡ list_any (λ arc. arc.tail == v) (map out_arc edges)
turned_back [] v = refl
turned_back (edge ∷ edges) v = ap (λ b. (edge.src == v) || b) (turned_back edges v)

-- not a mirror where the master is here
not_mirror : (share : Share) (v : ℕ) → (slice_index_or share.masters v 0 == share.host) ≡ true → is_mirror (seen Outward share) share.host v ≡ false
not_mirror share v here = ap (λ b. not b && (is_readable (seen Outward share) share.host v || is_writable (seen Outward share) share.host v)) here

-- proxies are vertices, and no more than these
pub few_proxies : (share : Share) → length (proxies_here share) ≤ nodes_of share
few_proxies share =
    omega (
      arith,
      both_few (λ v. slice_index_or share.masters v 0 == share.host) (is_mirror (seen Outward share) share.host) (not_mirror share) (range_with_len 0 (nodes_of share)),
      length-range_with_len 0 (nodes_of share),
      length-append (masters_here share) (mirrors_here share),
    )

pub proxies_below : (share : Share) → All (λ v. v < nodes_of share) (proxies_here share)
proxies_below share =
    All-append (λ v. v < nodes_of share) (masters_here share) (mirrors_here share) (picked_below (nodes_of share) _) (picked_below (nodes_of share) _)

-- a number outside a range is not in it
pub outside_range : (first count x : ℕ) → (first ≤ x → x < first + count → ⊥) → is_among (range_with_len first count) x ≡ false
outside_range first count x outside =
    list_any_none (λ other. other == x) (range_with_len first count) (λ k d within.
    let at = get_or-range_with_len first count k d (omega (arith, within, length-range_with_len first count)) in
    ne_eqb (slice_index_or (range_with_len first count) k d) x (λ same. outside (omega (arith, at, same)) (omega (arith, at, same, within, length-range_with_len first count))))

-- what holds of the share that the fields stand for holds of the value that is seen
pub kept : (graph : Inside) (share : Share) → share_of graph ≡ share → IsKept graph → Keeps share graph
kept graph share same holds =
    let P : Share → Type 0 = λ seen. Keeps seen graph in
    subst P same holds

module _ (share : Share) (graph : Inside) (keeps : Keeps share graph) where
  -- the proxies by local number
  pub proxies_are : proxies_here share ≡ proxies_of graph
  proxies_are = ap (λ xs. xs ++ mirrors_here share) keeps.masters_are ∙ ap (λ xs. range_with_len graph.first graph.count ++ xs) keeps.mirrors_are

  pub masters_are : length (masters_here share) ≡ graph.count
  masters_are = ap length keeps.masters_are ∙ length-range_with_len graph.first graph.count

  pub length-proxies : length (proxies_here share) ≡ graph.count + length graph.mirrors.items
  length-proxies =
      omega (arith, masters_are, ap length keeps.mirrors_are, length-append (masters_here share) (mirrors_here share))

  -- where a proxy's vertex stands
  pub at_master : (lid : ℕ) → lid < graph.count → slice_get (proxies_here share) lid ≡ Some (graph.first + lid)
  at_master lid within =
      ap (λ xs. slice_get xs lid) proxies_are
      ∙ slice_get-get_or (proxies_of graph) lid 0 (omega (arith, ap length proxies_are, length-proxies))
      ∙ ap Some (get_or_append_left (range_with_len graph.first graph.count) graph.mirrors.items 0 lid (omega (arith, length-range_with_len graph.first graph.count)) ∙ get_or-range_with_len graph.first graph.count lid 0 within)

  pub at_mirror : (place x : ℕ) → place < length graph.mirrors.items → slice_index graph.mirrors.items place ≡ x → slice_get (proxies_here share) (graph.count + place) ≡ Some x
  at_mirror place x within here =
      ap (λ xs. slice_get xs (graph.count + place)) proxies_are
      ∙ slice_get-get_or (proxies_of graph) (graph.count + place) 0 (omega (arith, ap length proxies_are, length-proxies))
      ∙ ap Some (
      get_or-append_right (range_with_len graph.first graph.count) graph.mirrors.items graph.count (graph.count + place) 0 (length-range_with_len graph.first graph.count) (omega arith)
      ∙ ap (λ k. slice_index graph.mirrors.items k) (omega arith)
      ∙ here)

  -- what stands at a place is a vertex
  pub known : (lid x : ℕ) → slice_get (proxies_here share) lid ≡ Some x → x < nodes_of share
  known lid x here = All-at (λ v. v < nodes_of share) (proxies_here share) lid x (proxies_below share) here

  pub nodes_fit : nodes_of share ≤ most_nodes
  nodes_fit = keeps.is_share.nodes_fit

  -- mirrors rise
  pub mirrors_rise : IsStrictlyIncreasing graph.mirrors.items
  mirrors_rise =
      let P : List ℕ → Type 0 = IsStrictlyIncreasing in
      subst P keeps.mirrors_are (IsStrictlyIncreasing-filter (is_mirror (seen Outward share) share.host) (range_with_len 0 (nodes_of share)) (range_rises 0 (nodes_of share)))

  -- a vertex that is no master here and no mirror has no proxy
  pub no_proxy : (gid : ℕ) → (graph.first ≤ gid → gid < graph.first + graph.count → ⊥) → is_among graph.mirrors.items gid ≡ false → is_among (proxies_here share) gid ≡ false
  no_proxy gid outside not_mirror =
      ap (λ xs. is_among xs gid) proxies_are
      ∙ list_any-append (λ other. other == gid) (range_with_len graph.first graph.count) graph.mirrors.items
      ∙ ap (λ b. b || is_among graph.mirrors.items gid) (outside_range graph.first graph.count gid outside)
      ∙ not_mirror

-- where a search by halves finds a number
pub found_at : (ids : List ℕ) (x place : ℕ) → IsStrictlyIncreasing ids → IsBinarySearchResult (λ y. nat_cmp y x) ids (Ok place) → (place < length ids) × (slice_index ids place ≡ x)
found_at ids x place rise answer =
    let rises = Rises-from_increasing 0 ids rise (λ some. omega arith) in
    searched ids x (Ok place) answer (λ i j order within. in_order 0 ids i j rises order within)

-- how many arcs a key has
length-arcs_at : (arcs : Arcs) (lid : ℕ) → AreRuns arcs → length (arcs_at arcs lid) ≡ count_at arcs lid
length-arcs_at arcs lid runs =
    let rest = drop (start_at arcs lid) (pairs_of arcs) in
    let long = length-pairs arcs.heads.items arcs.weights.items runs.weighed in
    elim (cases_lt (lid + 1) (length arcs.starts.items)) [
      | inl known ↦ length-take-le (count_at arcs lid) rest (omega (arith, long, length-drop (start_at arcs lid) (pairs_of arcs), runs.rises lid known, runs.within lid known))
      | inr behind ↦ ap length (arcs_behind arcs lid behind) ∙ sym (count_behind arcs lid behind)
    ]

module _ (share : Share) where
  -- whether a proxy has an arc is told by its starts
  pub has_arc : (way : Way) (arcs : Arcs) (lid : ℕ) → KeepsArcs way share arcs → lid < length (proxies_here share) → nat_lt 0 (count_at arcs lid) ≡ is_readable (seen way share) share.host (vertex_at share lid)
  has_arc way arcs lid keeps known =
      let tails : Arc → Bool = λ arc. arc.tail == vertex_at share lid in
      ap (nat_lt 0) (
      sym (length-arcs_at arcs lid keeps.runs)
      ∙ ap length (keeps.here lid known)
      ∙ length-map (filter tails (arcs_of way share.edges)) (λ arc. (lid_of share arc.head, arc.weight)))
      ∙ any_passes tails (arcs_of way share.edges)

  pub has_out : (arcs : Arcs) (lid : ℕ) → KeepsArcs Outward share arcs → lid < length (proxies_here share) → nat_lt 0 (count_at arcs lid) ≡ is_readable (seen Outward share) share.host (vertex_at share lid)
  has_out = has_arc Outward

  pub has_in : (arcs : Arcs) (lid : ℕ) → KeepsArcs Inward share arcs → lid < length (proxies_here share) → nat_lt 0 (count_at arcs lid) ≡ is_writable (seen Outward share) share.host (vertex_at share lid)
  has_in arcs lid keeps known = has_arc Inward arcs lid keeps known ∙ turned share.edges (vertex_at share lid)

  -- both ways a vertex has the arcs of either
  pub readable_both : (v : ℕ) → (is_readable (seen Outward share) share.host v || is_writable (seen Outward share) share.host v) ≡ is_readable (seen Both share) share.host v
  readable_both v =
      ap (λ b. is_readable (seen Outward share) share.host v || b) (sym (turned share.edges v))
      ∙ sym (list_any-append (λ arc. arc.tail == v) (map out_arc share.edges) (map in_arc share.edges))

  pub writable_both : (v : ℕ) → (is_writable (seen Outward share) share.host v || is_readable (seen Outward share) share.host v) ≡ is_writable (seen Both share) share.host v
  writable_both v =
      ap (λ b. is_writable (seen Outward share) share.host v || b) (sym (turned_back share.edges v))
      ∙ sym (list_any-append (λ arc. arc.head == v) (map out_arc share.edges) (map in_arc share.edges))
