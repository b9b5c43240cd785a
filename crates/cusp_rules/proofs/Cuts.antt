-- Bounds that cut the vertices into blocks.
use Rattle.std.proofs.Common.{◌≡◌, ℕ, zero, suc, ◌+◌, ◌-◌, ◌<◌, ◌≤◌, ◌↔◌, inl, inr, List, [], ◌∷◌, ◌++◌, length, map, min, slice_index, refl, ◌∙◌, arith, length-append}
use Rattle.std.specs.List.{range_with_len}
use Rattle.std.proofs.lemmas.Bool.{cases_lt}
use Rattle.std.proofs.lemmas.List.{get_or_append_left, get_or_push}
use Rattle.std.proofs.lemmas.List.Sorted.{IsNonDecreasingBy-from_default}
use Rattle.cusp_rules.specs.Hosts.{IsHostCount}
use Rattle.cusp_rules.specs.Blocks.{IsCut}
use Rattle.cusp_rules.specs.Bounds.{IsBounds, assignment_of, host_at, hosts_of, end_of}
use Rattle.cusp_rules.proofs.BoundCounts.{count-le, le-count}

-- functions that are equal on numbers give equal lists of them
map-range-same : (f g : ℕ → ℕ) (a n : ℕ) → ((v : ℕ) → a ≤ v → v < a + n → f v ≡ g v) → map f (range_with_len a n) ≡ map g (range_with_len a n)
map-range-same f g a zero same = refl
map-range-same f g a (suc n) same =
    let first : f a ≡ g a = same a (omega arith) (omega arith) in
    let rest = map-range-same f g (a + 1) n (λ v low high. same v (omega arith) (omega arith)) in
    cc

module _ (quotient : ℕ → ℕ) (nodes : ℕ) where
  module _ (hosts : ℕ) (cuts : List ℕ) (count : IsHostCount hosts) (fits : nodes ≤ 268_435_456) (cut : IsCut quotient nodes hosts cuts) where
    bounds : List ℕ
    bounds = cuts ++ nodes ∷ []

    length-bounds : length bounds ≡ hosts + 1
    unfolding bounds
    length-bounds = omega (arith, length-append cuts (nodes ∷ []), cut.long)

    -- the last bound is the number of vertices
    last_bound : (h : ℕ) → h ≡ hosts → slice_index bounds h ≡ nodes
    unfolding bounds
    last_bound h same = get_or_push cuts nodes 0 h (omega (arith, cut.long))

    bound_within : (h : ℕ) → h < hosts → slice_index bounds h ≤ nodes
    unfolding bounds
    bound_within h low = rw (get_or_append_left cuts (nodes ∷ []) 0 h (omega (arith, cut.long))) (cut.within h low)

    bound_first : (h v : ℕ) → h < hosts → v < nodes → (slice_index bounds h ≤ v) ↔ (h ≤ quotient v)
    unfolding bounds
    bound_first h v low vertex = rw (get_or_append_left cuts (nodes ∷ []) 0 h (omega (arith, cut.long))) (cut.first h v low vertex)

    -- the first host's vertices begin with vertex 0
    first_bound : slice_index bounds 0 ≡ 0
    first_bound = elim (cases_lt 0 nodes) [
      | inl some ↦ (let low = (bound_first 0 0 (omega (arith, count.some_host)) some).1 (omega arith) in omega (arith, low))
      | inr none ↦ omega (arith, bound_within 0 (omega (arith, count.some_host)))
    ]

    -- bounds do not fall
    bounds_rise : (i j : ℕ) → i ≤ j → j < length bounds → slice_index bounds i ≤ slice_index bounds j
    bounds_rise i j order here = elim (cases_lt j hosts) [
      | inl low ↦ (elim (cases_lt (slice_index bounds j) (slice_index bounds i)) [
        | inl falls ↦ (
            let vertex : slice_index bounds j < nodes = omega (arith, falls, bound_within i (omega arith)) in
            let block = (bound_first j (slice_index bounds j) low vertex).0 (omega arith) in
            let back = (bound_first i (slice_index bounds j) (omega arith) vertex).1 (omega (arith, block)) in
            absurd (omega (arith, falls, back)))
        | inr rises ↦ rises
      ])
      | inr last ↦ (elim (cases_lt i hosts) [
        | inl low ↦ omega (arith, bound_within i low, last_bound j (omega (arith, length-bounds)))
        | inr both ↦ omega (arith, last_bound i (omega (arith, length-bounds)), last_bound j (omega (arith, length-bounds)))
      ])
    ]

    pub IsBounds-from_cut : IsBounds (cuts ++ nodes ∷ [])
    unfolding bounds
    IsBounds-from_cut = record {
      some_host = omega (arith, length-bounds, count.some_host);
      few_hosts = omega (arith, length-bounds, count.few_hosts);
      begins = first_bound;
      rises = IsNonDecreasingBy-from_default (λ x. x) bounds 0 bounds_rise;
      ends = omega (arith, last_bound (length bounds - 1) (omega (arith, length-bounds)));
    }

    -- the host of a vertex is its block, or the last host
    host_is : (v : ℕ) → v < nodes → host_at bounds v ≡ min (hosts - 1) (quotient v)
    host_is v vertex =
        let block = quotient v in
        elim (cases_lt block hosts) [
          | inl low ↦ (
              let most = count-le bounds (block + 1) v (λ h after here. elim (cases_lt h hosts) [
                | inl inner ↦ (elim (cases_lt v (slice_index bounds h)) [
                  | inl above ↦ above
                  | inr below ↦ (let k = (bound_first h v inner vertex).0 below in absurd (omega (arith, k)))
                ])
                | inr last ↦ omega (arith, last_bound h (omega (arith, length-bounds)))
              ]) in
              let least = le-count bounds (block + 1) v (omega (arith, length-bounds)) (λ h before. (bound_first h v (omega arith) vertex).1 (omega arith)) in
              omega (arith, most, least))
          | inr high ↦ (
              let most = count-le bounds hosts v (λ h after here. omega (arith, last_bound h (omega (arith, length-bounds)))) in
              let least = le-count bounds hosts v (omega (arith, length-bounds)) (λ h before. (bound_first h v before vertex).1 (omega arith)) in
              omega (arith, most, least))
        ]

    pub assignment-from_cut : (master : ℕ → ℕ) → ((v : ℕ) → v < nodes → min (hosts - 1) (quotient v) ≡ master v)
        → assignment_of (cuts ++ nodes ∷ []) ≡ record { hosts = hosts; masters = map master (range_with_len 0 nodes) }
    unfolding bounds
    assignment-from_cut master same =
        let ends : end_of bounds ≡ nodes = last_bound (length bounds - 1) (omega (arith, length-bounds)) in
        let masters = map-range-same (host_at bounds) master 0 nodes (λ v low high. host_is v (omega arith) ∙ same v (omega arith)) in
        let n : hosts_of bounds ≡ hosts = omega (arith, length-bounds) in
        let whole : map (host_at bounds) (range_with_len 0 (end_of bounds)) ≡ map master (range_with_len 0 nodes) = rw ends masters in
        cc
