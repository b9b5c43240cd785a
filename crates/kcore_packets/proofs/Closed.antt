-- What hosts send in a run of k-core, by peeling.
use Rattle.std.proofs.Common.{◌≡◌, ℕ, zero, suc, ◌+◌, ◌<◌, ◌≤◌, ◌%◌, ◌^◌, inl, inr, cond, not, ◌&&◌, eqb, ltb, List, [], ◌∷◌, ◌++◌, length, get_or, refl, sym, ◌∙◌, ap, subst, arith}
use Rattle.std.specs.List.{All, AllByRecursion, flat_map, range_with_len}
use Rattle.std.specs.List.Sorted.{IsPermutation}
use Rattle.std.proofs.lemmas.Bool.Decides.{eqb_tells, leb_tells}
use Rattle.std.proofs.lemmas.List.{length-append}
use Rattle.std.proofs.lemmas.List.Elements.{All-from_recursion, recursion_from_All}
use Rattle.std.proofs.lemmas.List.Sorted.{All-permutation, length_permutation}
use Rattle.graph_model.specs.Arcs.{Arc}
use Rattle.graph_model.specs.Peeling.{peel}
use Rattle.graph_model.proofs.InnerDegrees.{inner_degree_within, inner_degree_agrees}
use Rattle.graph_model.proofs.PeelLaws.{peeling_order_is_free}
use Rattle.graph_division.specs.Division.{Division, whole}
use Rattle.graph_division.specs.Lists.{reduce_list, broadcast_list}
use Rattle.graph_division.proofs.PrunedLists.{lists_rise}
use Rattle.reduce_laws.specs.Reducers.{wrapping_sum}
use Rattle.kcore_program.specs.declared.core_state.CoreState.{CoreState}
use Rattle.kcore_program.specs.Steps.{core_steps}
use Rattle.kcore_program.specs.Tallies.{counts, tally}
use Rattle.kcore_program.specs.Laws.{AreCounted}
use Rattle.kcore_program.proofs.Rounds.{peeled_after, shown_is_left, tallies_count}
use Rattle.round_packets.specs.Runs.{Run, contribution}
use Rattle.round_packets.specs.Packets.{Agree}
use Rattle.round_packets.specs.RunPackets.{kept, gathered, reduce_packet, broadcast_packet}
use Rattle.kcore_packets.specs.Packets.{tally_packet, leaving_packet}

-- a run of k-core on a division
abbrev pub kcore_run : ℕ → Division → Run ℕ CoreState ℕ
kcore_run k division = record { reducer = wrapping_sum; steps = core_steps k; division = division; item_size = 4; shown_size = 1 }

-- what holds of the elements of two lists holds of those of each
halves : {Y : Type 0} (P : Y → Type 0) (xs ys : List Y) → AllByRecursion P (xs ++ ys) → AllByRecursion P xs × AllByRecursion P ys
halves P [] ys h = (tt, h)
halves P (x ∷ xs) ys h = let rest = halves P xs ys h.1 in ((h.0, rest.0), rest.1)

-- what holds of the elements of all parts holds of those of each
part_holds : {Y : Type 0} (P : Y → Type 0) (f : ℕ → List Y) (first count k : ℕ) → first ≤ k → k < first + count → AllByRecursion P (flat_map f (range_with_len first count)) → AllByRecursion P (f k)
part_holds P f first zero k low high h = absurd (omega arith)
part_holds P f first (suc count) k low high h =
    let both = halves P (f first) (flat_map f (range_with_len (first + 1) count)) h in
    elim (eqb_tells k first) [
      | inl same ↦ subst (λ n. AllByRecursion P (f n)) (sym same.1) both.0
      | inr other ↦ part_holds P f (first + 1) count k (let apart = other.1 in omega arith) (omega arith) both.1
    ]

-- a part is no longer than all parts
part_within : {Y : Type 0} (f : ℕ → List Y) (first count k : ℕ) → first ≤ k → k < first + count → length (f k) ≤ length (flat_map f (range_with_len first count))
part_within f first zero k low high = absurd (omega arith)
part_within f first (suc count) k low high =
    elim (eqb_tells k first) [
      | inl same ↦ (let here = ap (λ n. length (f n)) same.1 in omega (arith, length-append (f first) (flat_map f (range_with_len (first + 1) count))))
      | inr other ↦ (let apart = other.1 in let rest = part_within f (first + 1) count k (omega arith) (omega arith) in omega (arith, length-append (f first) (flat_map f (range_with_len (first + 1) count))))
    ]

-- what differs from nothing is above nothing
differs : (n : ℕ) → not (eqb n 0) ≡ ltb 0 n
differs n = elim (eqb_tells n 0) [
  | inl same ↦ (elim (leb_tells 1 n) [ inl low ↦ absurd (let is = same.1 in let above = low.1 in omega arith) | inr high ↦ ap not same.0 ∙ sym high.0 ])
  | inr other ↦ (elim (leb_tells 1 n) [ inl low ↦ ap not other.0 ∙ sym low.0 | inr high ↦ absurd (let apart = other.1 in let none = high.1 in omega arith) ])
]

-- whose arcs count hangs on no order of the arcs
counts_in_any_order : (k nodes : ℕ) (arcs others : List Arc) → IsPermutation arcs others → (rounds u : ℕ) → counts k nodes arcs rounds u ≡ counts k nodes others rounds u
counts_in_any_order k nodes arcs others moved zero u = refl
counts_in_any_order k nodes arcs others moved (suc rounds) u =
    ap (λ b. b && not (peel k nodes arcs (suc rounds) u)) (peeling_order_is_free k nodes arcs others rounds u moved)
    ∙ ap (λ b. peel k nodes others rounds u && not b) (peeling_order_is_free k nodes arcs others (suc rounds) u moved)

module _ (k : ℕ) (arcs : List Arc) (division : Division) (counted : AreCounted division.nodes arcs) (shared : IsPermutation arcs (whole division)) where
  -- the shares together can be counted
  pub all_counted : AreCounted division.nodes (whole division)
  all_counted = record {
    within = All-permutation (λ arc. arc.tail < division.nodes) arcs (whole division) shared counted.within;
    few = let few = counted.few in omega (arith, length_permutation arcs (whole division) shared);
  }

  -- and so can each
  share_counted : (host : ℕ) → host < division.hosts → AreCounted division.nodes (division.share host)
  share_counted host there = record {
    within = All-from_recursion (λ arc. arc.tail < division.nodes) (division.share host)
        (part_holds (λ arc. arc.tail < division.nodes) division.share 0 division.hosts host (omega arith) (omega arith)
        (recursion_from_All (λ arc. arc.tail < division.nodes) (whole division) all_counted.within));
    few = let few = all_counted.few in let part = part_within division.share 0 division.hosts host (omega arith) (omega arith) in omega arith;
  }

  -- the tally that a host's arcs bring
  abbrev tally_on : (rounds host v : ℕ) → ℕ
  tally_on rounds host v = tally k division.nodes arcs (division.share host) rounds v

  -- nothing is kept
  keeps_nothing : (rounds host v : ℕ) → kept (kcore_run k division) rounds host v ≡ 0
  unfolding kept
  keeps_nothing zero host v = refl
  keeps_nothing (suc rounds) host v = refl

  -- what a host contributes is its tally
  contributes : (rounds host v : ℕ) → host < division.hosts → contribution (kcore_run k division) rounds host v ≡ tally_on rounds host v
  contributes rounds host v there =
      tallies_count k division.nodes (whole division) (division.share host) rounds v all_counted (share_counted host there)
      ∙ sym (inner_degree_agrees (division.share host) (counts k division.nodes arcs rounds) (counts k division.nodes (whole division) rounds) v (counts_in_any_order k division.nodes arcs (whole division) shared rounds))

  tally_fits : (rounds host v : ℕ) → host < division.hosts → tally_on rounds host v < 2 ^ 32
  tally_fits rounds host v there =
      let counted = share_counted host there in
      let small = counted.few in
      let part = inner_degree_within (division.share host) (counts k division.nodes arcs rounds) v in omega arith

  -- and that is all that it gathers
  gathers : (rounds host v : ℕ) → host < division.hosts → gathered (kcore_run k division) rounds host v ≡ tally_on rounds host v
  gathers rounds host v there =
      ap (λ n. (n + contribution (kcore_run k division) rounds host v) % 2 ^ 32) (keeps_nothing rounds host v)
      ∙ ap (λ n. (0 + n) % 2 ^ 32) (contributes rounds host v there)
      ∙ (let fits = tally_fits rounds host v there in omega arith)

  -- who is sent has a tally
  sends : (rounds host v : ℕ) → host < division.hosts → not (eqb (gathered (kcore_run k division) rounds host v) (kept (kcore_run k division) rounds host v)) ≡ ltb 0 (tally_on rounds host v)
  sends rounds host v there =
      ap (λ n. not (eqb n (kept (kcore_run k division) rounds host v))) (gathers rounds host v there)
      ∙ ap (λ n. not (eqb (tally_on rounds host v) n)) (keeps_nothing rounds host v)
      ∙ differs (tally_on rounds host v)

  pub tallies_sent : (rounds from to : ℕ) → from < division.hosts → Agree (reduce_packet (kcore_run k division) rounds from to) (tally_packet k arcs division rounds from to)
  tallies_sent rounds from to there = record {
    ids = refl;
    updated = λ i d low. sends rounds from (get_or (reduce_list division from to) i d) there;
    values = λ i d low. gathers rounds from (get_or (reduce_list division from to) i d) there;
  }

  -- who is listed is a vertex
  listed_below : (from to : ℕ) → All (λ v. v < division.nodes) (broadcast_list division from to)
  listed_below from to = (lists_rise division from to).1.1

  pub leavers_told : (rounds from to : ℕ) → Agree (broadcast_packet (kcore_run k division) rounds from to) (leaving_packet k arcs division rounds from to)
  leavers_told rounds from to = record {
    ids = refl;
    updated = λ i d low.
        let v = get_or (broadcast_list division from to) i d in
        (peeled_after k division.nodes (whole division) all_counted (suc rounds)).awake v (listed_below from to i d low)
        ∙ sym (counts_in_any_order k division.nodes arcs (whole division) shared (suc rounds) v);
    values = λ i d low.
        let v = get_or (broadcast_list division from to) i d in
        shown_is_left k division.nodes (whole division) (suc rounds) v all_counted (listed_below from to i d low)
        ∙ ap (λ b. cond b 0 1) (sym (peeling_order_is_free k division.nodes arcs (whole division) (suc rounds) v shared));
  }
