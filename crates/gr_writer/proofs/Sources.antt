-- The index of a list of edges by source gives the sources back.
use Rattle.std.proofs.Common.{◌≡◌, ℕ, zero, suc, ◌+◌, ◌-◌, ◌<◌, ◌≤◌, List, [], ◌∷◌, ◌++◌, map, replicate, refl, sym, ap, ◌∙◌, arith, ⊎_elim, Some, None}
use Rattle.std.specs.Prelude.{All, slice_get}
use Rattle.std.specs.List.{range_with_len}
use Rattle.std.proofs.lemmas.Bool.{cases_lt, le-ltb}
use Rattle.std.proofs.lemmas.List.Elements.{All-head, All-tail}
use Rattle.list_laws.specs.Rising.{NeverFalls}
use Rattle.list_laws.proofs.Rising.{NeverFalls-lower}
use Rattle.list_laws.proofs.Ranges.{map-range_same}
use Rattle.graph_model.specs.declared.edge.Edge.{Edge}
use Rattle.graph_model.specs.Graph.{IsBySource}
use Rattle.edge_columns.specs.Columns.{sources, last_entry}
use Rattle.gr_reader.specs.File.{entry_fault}
use Rattle.edge_columns.proofs.EdgeLaws.{source}
use Rattle.gr_writer.specs.File.{end_of}
use Rattle.gr_writer.proofs.Ends.{IsBySource-tail, IsBySource-head, end_of-cons_yes, end_of-cons_no}

-- edges by source
pub NeverFalls-from_sorted : (low : ℕ) (edges : List Edge) → IsBySource edges → ((i : ℕ) (a : Edge) → slice_get edges i ≡ Some a → low ≤ a.src) → NeverFalls low (map source edges)
NeverFalls-from_sorted low [] sorted above = tt
NeverFalls-from_sorted low (edge ∷ edges) sorted above =
    (above zero edge refl, NeverFalls-from_sorted edge.src edges (IsBySource-tail edge edges sorted) (IsBySource-head edge edges sorted))

-- no range ends before the first edge where each edge starts past the node
pub end_of-past : (v : ℕ) (edges : List Edge) → NeverFalls (v + 1) (map source edges) → end_of edges v ≡ 0
end_of-past v [] rises = refl
end_of-past v (edge ∷ edges) rises =
    omega (arith, rises.0, end_of-past v edges (NeverFalls-lower (v + 1) edge.src (map source edges) rises.0 rises.1), end_of-cons_no edge edges v (omega (arith, rises.0)))

-- edges from this node on, split into those of this node and the later ones
pub record Split (node bound : ℕ) (edges : List Edge) : Type 0 where
  pub count : ℕ
  pub later : List Edge
  pub is : end_of edges node ≡ count
  pub gives : map source edges ≡ replicate count node ++ map source later
  pub ends : (v : ℕ) → node ≤ v → end_of edges v ≡ count + end_of later v
  pub rises : NeverFalls (node + 1) (map source later)
  pub within : All (λ (edge : Edge). edge.src < bound) later

pub split_edges : (node bound : ℕ) (edges : List Edge) → NeverFalls node (map source edges) → All (λ (edge : Edge). edge.src < bound) edges → Split node bound edges
split_edges node bound [] rises within = record { count = 0; later = []; is = refl; gives = refl; ends = λ v h. refl; rises = tt; within = within }
split_edges node bound (edge ∷ edges) rises within =
    ⊎_elim
    (λ (past : node < edge.src). record {
      count = 0;
      later = edge ∷ edges;
      is = end_of-past node (edge ∷ edges) (omega arith, rises.1);
      gives = refl;
      ends = λ v h. omega arith;
      rises = (omega arith, rises.1);
      within = within;
    })
    (λ (here : edge.src ≤ node).
    let same : edge.src ≡ node = omega (arith, rises.0) in
    let rest = split_edges node bound edges (NeverFalls-lower node edge.src (map source edges) (omega arith) rises.1) (All-tail (λ (e : Edge). e.src < bound) edge edges within) in
    record {
      count = suc rest.count;
      later = rest.later;
      is = omega (arith, rest.is, end_of-cons_yes edge edges node here);
      gives = ap (λ n. n ∷ map source edges) same ∙ ap (λ l. node ∷ l) rest.gives;
      ends = λ v h. omega (arith, rest.ends v h, end_of-cons_yes edge edges v (omega arith));
      rises = rest.rises;
      within = rest.within;
    })
    (cases_lt node edge.src)

-- the sources that the ends from this node on give
pub sources-ends : (k node before : ℕ) (edges : List Edge) → NeverFalls node (map source edges) → All (λ (edge : Edge). edge.src < node + k) edges
    → sources node before (map (λ v. before + end_of edges v) (range_with_len node k)) ≡ map source edges
sources-ends zero node before [] rises within = refl
sources-ends zero node before (edge ∷ edges) rises within =
    absurd (omega (arith, rises.0, All-head (λ (e : Edge). e.src < node + zero) edge edges within))
sources-ends (suc k) node before edges rises within =
    let s = split_edges node (node + suc k) edges rises within in
    let f : ℕ → ℕ = λ v. before + end_of edges v in
    let g : ℕ → ℕ = λ v. before + s.count + end_of s.later v in
    let rest = sources-ends k (node + 1) (before + s.count) s.later s.rises (λ i d h. omega (arith, s.within i d h)) in
    let here : before + end_of edges node - before ≡ s.count = omega (arith, s.is) in
    let end : before + end_of edges node ≡ before + s.count = omega (arith, s.is) in
    let tail : map f (range_with_len (node + 1) k) ≡ map g (range_with_len (node + 1) k) = map-range_same f g (node + 1) k (λ v h. omega (arith, s.ends v (omega arith))) in
    ap (λ n. replicate n node ++ sources (node + 1) (before + end_of edges node) (map f (range_with_len (node + 1) k))) here
    ∙ ap (λ n. replicate s.count node ++ sources (node + 1) n (map f (range_with_len (node + 1) k))) end
    ∙ ap (λ l. replicate s.count node ++ sources (node + 1) (before + s.count) l) tail
    ∙ ap (λ l. replicate s.count node ++ l) rest
    ∙ sym s.gives

-- ends do not fall
pub entry_fault-none : (f : ℕ → ℕ) → ((v : ℕ) → f v ≤ f (v + 1)) → (k a place before : ℕ) → before ≤ f a → entry_fault place before (map f (range_with_len a k)) ≡ None
entry_fault-none f rises zero a place before le = refl
entry_fault-none f rises (suc k) a place before le =
    let rest = entry_fault-none f rises k (a + 1) (place + 1) (f a) (rises a) in
    rw (le-ltb (f a) before le) rest

-- the last of these
pub last_entry-map : (f : ℕ → ℕ) (k a before : ℕ) → last_entry before (map f (range_with_len a (suc k))) ≡ f (a + k)
last_entry-map f zero a before = ap f (omega arith)
last_entry-map f (suc k) a before = last_entry-map f k (a + 1) (f a) ∙ ap f (omega arith)
