-- The definition of a made graph, node by node.
use Rattle.std.proofs.Common.{◌≡◌, ℕ, zero, suc, ◌+◌, ◌-◌, ◌*◌, ◌/◌, ◌%◌, ◌<◌, ◌⊎◌, inl, inr, List, [], ◌∷◌, ◌++◌, map, refl, sym, ap, ◌∙◌, add-one, arith}
use Rattle.std.specs.Prelude.{if◌then◌else◌}
use Rattle.std.proofs.lemmas.Bool.Decides.{eqb_tells}
use Rattle.std.specs.List.{flat_map, range_with_len, sum_by}
use Rattle.std.proofs.lemmas.List.Concat.{flat_map-append}
use Rattle.std.proofs.lemmas.List.Sums.{sum_by-append}
use Rattle.std.proofs.lemmas.List.{append-nil, map-append}
use Rattle.graph_model.specs.declared.edge.Edge.{Edge}
use Rattle.graph_maker.specs.Words.{words_from, state_at, word_at}
use Rattle.graph_maker.specs.MadeGraph.{degree_of, words_before, edges_by, edges_of, made_edges}
use Rattle.graph_maker.proofs.Stream.{words_from-state_at, words_from-more, state_at-state_at}

-- a range with one number more
range_with_len_push : (n a : ℕ) → range_with_len a (suc n) ≡ range_with_len a n ++ (a + n) ∷ []
range_with_len_push zero a = ap (λ k. k ∷ []) (omega arith)
range_with_len_push (suc n) a =
    ap (λ l. a ∷ l) (range_with_len_push n (a + 1))
    ∙ ap (λ k. a ∷ range_with_len (a + 1) n ++ k ∷ []) (omega arith)

-- the numbers below n and n itself
range-more : (n : ℕ) → range_with_len 0 (n + 1) ≡ range_with_len 0 n ++ n ∷ []
range-more n =
    let next : n + 1 ≡ suc n = omega arith in
    let place : 0 + n ≡ n = omega arith in
    ap (range_with_len 0) next ∙ range_with_len_push n 0 ∙ ap (λ k. range_with_len 0 n ++ k ∷ []) place

-- a sum over one number more
sum_by-range_more : (f : ℕ → ℕ) (n : ℕ) → sum_by f (range_with_len 0 (n + 1)) ≡ sum_by f (range_with_len 0 n) + f n
sum_by-range_more f n =
    let last : sum_by f (n ∷ []) ≡ f n = omega arith in
    ap (sum_by f) (range-more n) ∙ sum_by-append f (range_with_len 0 n) (n ∷ [])
    ∙ ap (λ k. sum_by f (range_with_len 0 n) + k) last

-- how many words the nodes up to v take
pub words_before-more : (v : ℕ) → words_before v + (degree_of v - 1) ≡ words_before (v + 1)
words_before-more v = sym (sum_by-range_more (λ u. degree_of u - 1) v)

-- a hub or another node
pub degree_of-cases : (v : ℕ) → ((v % 16 ≡ 0) × (degree_of v ≡ 16)) ⊎ ((0 < v % 16) × (degree_of v ≡ 3))
degree_of-cases v =
    elim (eqb_tells (v % 16) 0) [
      | inl hub ↦ inl (hub.1, ap (λ b. if b then 16 else 3) hub.0)
      | inr other ↦ inr (omega (arith, other.1), ap (λ b. if b then 16 else 3) other.0)
    ]

-- how many edges there are
pub sum_by-degree_of : (n : ℕ) → sum_by degree_of (range_with_len 0 n) ≡ 3 * n + 13 * ((n + 15) / 16)
sum_by-degree_of zero = refl
sum_by-degree_of (suc n) =
    let next : sum_by degree_of (range_with_len 0 (suc n)) ≡ sum_by degree_of (range_with_len 0 (n + 1)) = ap (λ k. sum_by degree_of (range_with_len 0 k)) (sym (add-one n)) in
    let more = sum_by-range_more degree_of n in
    let before = sum_by-degree_of n in
    elim (degree_of-cases n) [ inl hub ↦ omega (arith, hub.0, hub.1) | inr other ↦ omega (arith, other.0, other.1) ]

-- the edges of a node by the words from the state that it finds
edges_of-from_state : (size number v : ℕ)
    → edges_by size v (words_from (state_at number (words_before v)) 0 (degree_of v - 1)) ≡ edges_of size number v
edges_of-from_state size number v =
    ap (edges_by size v) (words_from-state_at number (words_before v) (degree_of v - 1))

-- edges drawn by one word more
pub drawn-more : (f : ℕ → Edge) (state n : ℕ) → map f (words_from state 0 (n + 1)) ≡ map f (words_from state 0 n) ++ f (word_at state n) ∷ []
drawn-more f state n = ap (map f) (words_from-more state n) ∙ map-append f (words_from state 0 n) (word_at state n ∷ [])

-- the edges of one node more
flat_map-range_more : (f : ℕ → List Edge) (n : ℕ) → flat_map f (range_with_len 0 (n + 1)) ≡ flat_map f (range_with_len 0 n) ++ f n
flat_map-range_more f n =
    ap (flat_map f) (range-more n)
    ∙ flat_map-append f (range_with_len 0 n) (n ∷ [])
    ∙ ap (λ l. flat_map f (range_with_len 0 n) ++ l) (append-nil (f n))

-- the edges of the nodes before v, and then those of v by the words from the state that it finds
pub nodes-more : (size number v state : ℕ) (before : List Edge)
    → before ≡ flat_map (edges_of size number) (range_with_len 0 v) → state ≡ state_at number (words_before v)
    → before ++ edges_by size v (words_from state 0 (degree_of v - 1))
    ≡ flat_map (edges_of size number) (range_with_len 0 (v + 1))
nodes-more size number v state before edges words =
    let done = flat_map (edges_of size number) (range_with_len 0 v) in
    ap (λ l. l ++ edges_by size v (words_from state 0 (degree_of v - 1))) edges
    ∙ ap (λ s. done ++ edges_by size v (words_from s 0 (degree_of v - 1))) words
    ∙ ap (λ l. done ++ l) (edges_of-from_state size number v)
    ∙ sym (flat_map-range_more (edges_of size number) v)

-- the edges of all nodes
pub made_edges-from : (size number n : ℕ) (edges : List Edge) → edges ≡ flat_map (edges_of size number) (range_with_len 0 n) → n ≡ size → edges ≡ made_edges size number
unfolding made_edges
made_edges-from size number n edges so_far all = so_far ∙ ap (λ v. flat_map (edges_of size number) (range_with_len 0 v)) all

-- the state after the nodes before v and v
pub state-more : (number v state : ℕ) → state ≡ state_at number (words_before v) → state_at state (degree_of v - 1) ≡ state_at number (words_before (v + 1))
state-more number v state words =
    ap (λ s. state_at s (degree_of v - 1)) words
    ∙ state_at-state_at number (words_before v) (degree_of v - 1)
    ∙ ap (state_at number) (words_before-more v)
