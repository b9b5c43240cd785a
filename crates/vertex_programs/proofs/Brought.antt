-- What a host's arcs bring, as a number: what they had brought before, and what comes from tails that are awake.
use Rattle.std.proofs.Common.{◌≡◌, ℕ, zero, suc, ◌+◌, ◌-◌, ◌<◌, ◌≤◌, ◌==◌, min, true, false, Bool, cond, not, ◌&&◌, Option, Some, List, [], ◌∷◌, map, refl, sym, subst, ◌∙◌, ap, ◌⊎◌, ◌≢◌, inl, inr, arith}
use Rattle.std.specs.List.{AllByRecursion, filter}
use Rattle.std.proofs.lemmas.Bool.Decides.{eqb_tells}
use Rattle.std.proofs.lemmas.List.Elements.{recursion_from_All, All-filter}
use Rattle.graph_model.specs.Arcs.{Arc}
use Rattle.graph_model.specs.Least.{Fares, Gives, IsLeast}
use Rattle.graph_division.specs.ProgramArcs.{IsArcOf, AreArcsOf}
use Rattle.graph_division.specs.Division.{Division, whole}
use Rattle.reduce_laws.specs.ReductionLaws.{combined}
use Rattle.reduce_laws.specs.Reducers.{least_below}
use Rattle.lone_rounds.specs.Moments.{brought}
use Rattle.round_packets.specs.Runs.{Run, IsRun, moment_of, contribution}
use Rattle.round_packets.proofs.Shares.{whole_within, contribution_is_value, settles_by_hosts}
use Rattle.round_packets.proofs.Turns.{combined_has}
use Rattle.vertex_programs.specs.Labels.{number_of, label_steps, label_after, Fits}
use Rattle.vertex_programs.specs.LabelPackets.{AreLeast, least_of, with_cost, got}
use Rattle.vertex_programs.proofs.Steps.{given_along, never_rises}
use Rattle.vertex_programs.proofs.LeastLabels.{label_bound, label_is_some, label_at_most, labels_are_answers}
use Rattle.vertex_programs.proofs.Numbers.{IsLabel, number_of-lesser, lesser_is_label, number_of-with_cost, with_cost_is_label}

-- a run of the program of these fares, whatever its limit and the size of its labels
abbrev pub run_with : (limit size : ℕ) → Fares → Division → Run ℕ ℕ ℕ
run_with limit size fares division = record {
  reducer = least_below limit;
  steps = label_steps limit fares;
  division = division;
  item_size = size;
  shown_size = size;
}

-- what holds of such a run, where `plain` has the least that walks of its whole graph give
pub record IsLabelRun (limit size : ℕ) (fares : Fares) (division : Division) (plain : ℕ → ℕ → Option ℕ) : Type 0 where
  pub is_run : IsRun (λ x. x < limit) (λ x. x < limit) (λ x. x < limit) (run_with limit size fares division)
  pub fits : Fits limit division.nodes fares
  pub is_least : AreLeast fares division.nodes (whole division) plain

module _ (limit size : ℕ) (fares : Fares) (division : Division) (plain : ℕ → ℕ → Option ℕ) (is : IsLabelRun limit size fares division plain) where
  -- the arcs of the whole graph are arcs of its nodes
  arcs_fit : AreArcsOf division.nodes (whole division)
  arcs_fit = whole_within (run_with limit size fares division) is.is_run

  -- the label of a vertex after so many rounds
  abbrev pub label : (rounds v : ℕ) → ℕ
  label rounds v = label_after limit fares (whole division) rounds v

  -- the number of an answer is the label
  pub number_is_label : (rounds v : ℕ) → v < division.nodes → number_of (limit - 1) (plain rounds v) ≡ label rounds v
  number_is_label rounds v below = sym (labels_are_answers limit fares division.nodes (whole division) rounds v (plain rounds v) arcs_fit is.fits below (is.is_least rounds v below))

  -- an answer that is there is given by a walk
  answer_given : (rounds v n : ℕ) → v < division.nodes → plain rounds v ≡ Some n → Gives fares (whole division) (Some rounds) v n
  answer_given rounds v n below there =
      let least : IsLeast fares (whole division) (Some rounds) v (Some n) = subst (IsLeast fares (whole division) (Some rounds) v) there (is.is_least rounds v below) in
      least.0

  -- and is a label
  pub answer_is_label : (rounds v : ℕ) → v < division.nodes → IsLabel (limit - 1) (plain rounds v)
  answer_is_label rounds v below n there =
      let some = label_is_some limit fares (whole division) division.nodes arcs_fit is.fits rounds v n below (answer_given rounds v n below there) in
      let same : n ≡ label rounds v = sym (ap (number_of (limit - 1)) there) ∙ number_is_label rounds v below in
      omega (arith, some, same)

  -- with the cost of an arc it still is one
  sum_is_label : (rounds : ℕ) (arc : Arc) → IsArcOf division.nodes arc → (n : ℕ) → plain rounds arc.tail ≡ Some n → n + fares.cost arc.weight < limit - 1
  sum_is_label rounds arc ends n there =
      let bound = label_bound limit fares (whole division) division.nodes arcs_fit is.fits rounds arc.tail n ends.tail_within (answer_given rounds arc.tail n ends.tail_within there) in
      let same : n ≡ label rounds arc.tail = sym (ap (number_of (limit - 1)) there) ∙ number_is_label rounds arc.tail ends.tail_within in
      let cost = is.fits.costs arc.weight ends.weight_fits in
      let room = is.fits.room in
      omega (arith, bound, same, cost, room)

  -- what goes along an arc from an answer
  abbrev along_arc : (rounds : ℕ) → Arc → Option ℕ
  along_arc rounds arc = with_cost (plain rounds arc.tail) (fares.cost arc.weight)

  -- the least of what goes along arcs is a label
  least_is_label : (rounds : ℕ) (xs : List Arc) → AllByRecursion (IsArcOf division.nodes) xs → IsLabel (limit - 1) (least_of (map (along_arc rounds) xs))
  least_is_label rounds [] h = λ n there. absurd (cc)
  least_is_label rounds (arc ∷ xs) h =
      lesser_is_label (limit - 1) (along_arc rounds arc) (least_of (map (along_arc rounds) xs))
      (with_cost_is_label (limit - 1) (plain rounds arc.tail) (fares.cost arc.weight) (sum_is_label rounds arc h.0)) (least_is_label rounds xs h.1)

  -- and its number is what the labels come to along the arcs
  least_is_combined : (rounds : ℕ) (xs : List Arc) → AllByRecursion (IsArcOf division.nodes) xs → number_of (limit - 1) (least_of (map (along_arc rounds) xs)) ≡ combined (least_below limit) (given_along limit fares (whole division) rounds) xs
  least_is_combined rounds [] h = refl
  least_is_combined rounds (arc ∷ xs) h =
      number_of-lesser (limit - 1) (along_arc rounds arc) (least_of (map (along_arc rounds) xs))
      (with_cost_is_label (limit - 1) (plain rounds arc.tail) (fares.cost arc.weight) (sum_is_label rounds arc h.0)) (least_is_label rounds xs h.1)
      ∙ ap (λ n. min n (number_of (limit - 1) (least_of (map (along_arc rounds) xs))))
      (number_of-with_cost (limit - 1) (plain rounds arc.tail) (fares.cost arc.weight) (sum_is_label rounds arc h.0)
      ∙ ap (λ n. min (n + fares.cost arc.weight) (limit - 1)) (number_is_label rounds arc.tail h.0.tail_within))
      ∙ ap (min (given_along limit fares (whole division) rounds arc)) (least_is_combined rounds xs h.1)

  -- the arcs of a host that lead to a vertex
  abbrev into : (host v : ℕ) → List Arc
  into host v = filter (λ arc. arc.head == v) (division.share host)

  into_fit : (host v : ℕ) → AllByRecursion (IsArcOf division.nodes) (into host v)
  into_fit host v =
      let fact = is.is_run in
      recursion_from_All (IsArcOf division.nodes) (into host v) (All-filter (λ arc. arc.head == v) (IsArcOf division.nodes) (division.share host) (fact.divided.within host))

  -- what a host got, as a number
  abbrev pub got_number : (host round v : ℕ) → ℕ
  got_number host round v = number_of (limit - 1) (got fares division plain host round v)

  pub got_is_label : (host round v : ℕ) → IsLabel (limit - 1) (got fares division plain host round v)
  got_is_label host zero v = λ n there. absurd (cc)
  got_is_label host (suc before) v = least_is_label before (into host v) (into_fit host v)

  got_is_combined : (host before v : ℕ) → got_number host (suc before) v ≡ combined (least_below limit) (given_along limit fares (whole division) before) (into host v)
  got_is_combined host before v = least_is_combined before (into host v) (into_fit host v)

  -- who is awake after so many rounds
  abbrev awake : (rounds u : ℕ) → Bool
  awake rounds u = (moment_of (run_with limit size fares division) rounds).awake u

  -- nothing comes to more than none
  combined_at_most : {A : Type 0} (f : A → ℕ) (xs : List A) → combined (least_below limit) f xs ≤ limit - 1
  combined_at_most f [] = omega arith
  combined_at_most f (x ∷ xs) = let rest = combined_at_most f xs in omega arith

  -- at first everyone is awake
  first_brings : (xs : List Arc) (v : ℕ) → combined (least_below limit) (given_along limit fares (whole division) 0) (filter (λ arc. arc.head == v && awake 0 arc.tail) xs) ≡ combined (least_below limit) (given_along limit fares (whole division) 0) (filter (λ arc. arc.head == v) xs)
  first_brings [] v = refl
  first_brings (arc ∷ xs) v = step (arc.head == v) (first_brings xs v)
    where
      live : List Arc
      live = filter (λ a. a.head == v && awake 0 a.tail) xs

      all : List Arc
      all = filter (λ a. a.head == v) xs

      step : (b : Bool) → combined (least_below limit) (given_along limit fares (whole division) 0) live ≡ combined (least_below limit) (given_along limit fares (whole division) 0) all
          → combined (least_below limit) (given_along limit fares (whole division) 0) (cond (b && true) (arc ∷ live) live) ≡ combined (least_below limit) (given_along limit fares (whole division) 0) (cond b (arc ∷ all) all)
      step true rest = ap (min (given_along limit fares (whole division) 0 arc)) rest
      step false rest = rest

  -- later, what was brought before and what comes from tails that are awake is what all tails bring
  later_brings : (before : ℕ) (xs : List Arc) (v : ℕ)
      → min (combined (least_below limit) (given_along limit fares (whole division) before) (filter (λ arc. arc.head == v) xs))
      (combined (least_below limit) (given_along limit fares (whole division) (suc before)) (filter (λ arc. arc.head == v && awake (suc before) arc.tail) xs))
      ≡ combined (least_below limit) (given_along limit fares (whole division) (suc before)) (filter (λ arc. arc.head == v) xs)
  later_brings before [] v = omega arith
  later_brings before (arc ∷ xs) v = step (arc.head == v) (label before arc.tail == label (suc before) arc.tail) (eqb_tells (label before arc.tail) (label (suc before) arc.tail)) (later_brings before xs v)
    where
      live : List Arc
      live = filter (λ a. a.head == v && awake (suc before) a.tail) xs

      all : List Arc
      all = filter (λ a. a.head == v) xs

      old : Arc → ℕ
      old = given_along limit fares (whole division) before

      new : Arc → ℕ
      new = given_along limit fares (whole division) (suc before)

      no_more : new arc ≤ old arc
      no_more = let falls = never_rises limit fares (whole division) before arc.tail in omega arith

      step : (b c : Bool) → ((c ≡ true) × (label before arc.tail ≡ label (suc before) arc.tail)) ⊎ ((c ≡ false) × (label before arc.tail ≢ label (suc before) arc.tail))
          → min (combined (least_below limit) old all) (combined (least_below limit) new live) ≡ combined (least_below limit) new all
          → min (combined (least_below limit) old (cond b (arc ∷ all) all)) (combined (least_below limit) new (cond (b && not c) (arc ∷ live) live)) ≡ combined (least_below limit) new (cond b (arc ∷ all) all)
      step false c either rest = rest
      step true false either rest = omega (arith, no_more, rest)
      step true true (inl same) rest =
          let is : old arc ≡ new arc = ap (λ n. min (n + fares.cost arc.weight) (limit - 1)) same.1 in
          omega (arith, is, rest)
      step true true (inr other) rest = absurd (let h = other.0 in cc)

  -- what a host's arcs contribute to a round
  abbrev pub comes : (rounds host v : ℕ) → ℕ
  comes rounds host v = contribution (run_with limit size fares division) rounds host v

  -- beside what it got, it is what it gets
  pub gets : (rounds host v : ℕ) → min (got_number host rounds v) (comes rounds host v) ≡ got_number host (suc rounds) v
  unfolding brought
  gets zero host v =
      let all = combined (least_below limit) (given_along limit fares (whole division) 0) (into host v) in
      let most : all ≤ limit - 1 = combined_at_most (given_along limit fares (whole division) 0) (into host v) in
      ap (min (limit - 1)) (first_brings (division.share host) v) ∙ (let e : min (limit - 1) all ≡ all = omega arith in e) ∙ sym (got_is_combined host 0 v)
  gets (suc before) host v =
      ap (λ n. min n (comes (suc before) host v)) (got_is_combined host before v) ∙ later_brings before (division.share host) v ∙ sym (got_is_combined host (suc before) v)

  -- no label is above what some host's arcs contribute to its round
  pub label_at_most_comes : (rounds host v : ℕ) → host < division.hosts → label (suc rounds) v ≤ comes rounds host v
  label_at_most_comes rounds host v there =
      let fact = is.is_run in
      let all = settles_by_hosts (run_with limit size fares division) fact rounds v in
      let has = combined_has fact.reduction (λ h. comes rounds h v) (λ h. contribution_is_value (run_with limit size fares division) fact rounds h v) refl 0 division.hosts host (omega arith) (omega arith) in
      omega (arith, all, has)

  -- nor above what a host got
  pub label_at_most_got : (rounds host v : ℕ) → host < division.hosts → v < division.nodes → label rounds v ≤ got_number host rounds v
  label_at_most_got zero host v there below = label_at_most limit fares (whole division) division.nodes arcs_fit is.fits 0 v below
  label_at_most_got (suc rounds) host v there below =
      let before = label_at_most_got rounds host v there below in
      let falls = never_rises limit fares (whole division) rounds v in
      let one = label_at_most_comes rounds host v there in
      let next = gets rounds host v in
      omega (arith, before, falls, one, next)
