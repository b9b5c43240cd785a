-- What a program has in each round: states, values, and nothing new after a quiet round.
use Rattle.std.proofs.Common.{◌≡◌, ℕ, zero, suc, ◌+◌, ◌<◌, ◌-◌, true, false, Bool, ◌&&◌, not, List, [], ◌∷◌, ◌++◌, refl, sym, ◌∙◌, ap, arith, ◌==◌}
use Rattle.std.specs.List.{All, AllByRecursion, filter, flat_map}
use Rattle.std.proofs.lemmas.List.Elements.{recursion_from_All, All-filter, All-weaker, filter-append}
use Rattle.graph_model.specs.Arcs.{Arc}
use Rattle.reduce_laws.specs.ReductionLaws.{Reducer, ReductionLaws, combined}
use Rattle.reduce_laws.specs.ProgramLaws.{Steps, ProgramLaws}
use Rattle.lone_rounds.specs.Moments.{Moment, carried_along, live_arcs, brought, moment_after, state_after, shown_after}
use Rattle.reduce_laws.proofs.Combining.{combined_is_value, combined-append, All-flat_map}
use Rattle.graph_division.specs.ProgramArcs.{IsArcOf, AreArcsOf}
use Rattle.lone_rounds.specs.RoundCount.{IsQuietRound}
use Rattle.lone_rounds.specs.Laws.{QuietStays, OnlyReachedChange, SharesBring, LastStays}

-- nothing passes a test that all fail
filter_none : {X : Type 0} (p : X → Bool) (xs : List X) → AllByRecursion (λ x. p x ≡ false) xs → filter p xs ≡ []
filter_none p [] h = refl
filter_none p (x ∷ xs) h = rw h.0 (filter_none p xs h.1)

-- a test that fails, behind another
and_false : (a b : Bool) → b ≡ false → (a && b) ≡ false
and_false true b h = h
and_false false b h = refl

-- the vertices of a graph have states
abbrev pub HasStates : {State : Type 0} → (State → Type 0) → ℕ → Moment State → Type 0
HasStates IsState nodes moment = (v : ℕ) → v < nodes → IsState (moment.state v)

module _ {Item State Shown : Type 0} {IsItem : Item → Type 0} {IsShown : Shown → Type 0} {IsState : State → Type 0} {reducer : Reducer Item} {steps : Steps Item State Shown} (reduction : ReductionLaws IsItem reducer) (program : ProgramLaws IsItem IsShown IsState reducer steps) where
  -- a value goes along each arc
  pub values_along : (nodes : ℕ) (arcs : List Arc) (moment : Moment State) → All (IsArcOf nodes) arcs → HasStates IsState nodes moment → (v : ℕ) → AllByRecursion (λ arc. IsItem (carried_along steps moment arc)) (live_arcs moment arcs v)
  values_along nodes arcs moment within states v =
      recursion_from_All (λ arc. IsItem (carried_along steps moment arc)) (live_arcs moment arcs v)
      (All-filter (λ arc. arc.head == v && moment.awake arc.tail) (λ arc. IsItem (carried_along steps moment arc)) arcs
      (All-weaker (IsArcOf nodes) (λ arc. IsItem (carried_along steps moment arc))
      (λ arc fact. program.along_is_value (steps.shown (moment.state arc.tail)) arc.weight (program.shown_is_value (moment.state arc.tail) (states arc.tail fact.tail_within)) fact.weight_fits)
      arcs within))

  -- arcs bring values
  pub brought_is_value : (nodes : ℕ) (arcs : List Arc) (moment : Moment State) → All (IsArcOf nodes) arcs → HasStates IsState nodes moment → (v : ℕ) → IsItem (brought reducer steps arcs moment v)
  unfolding brought
  brought_is_value nodes arcs moment within states v =
      combined_is_value reduction (carried_along steps moment) (live_arcs moment arcs v) (values_along nodes arcs moment within states v)

  -- so there are states after each round
  pub states_after : (nodes : ℕ) (arcs : List Arc) → AreArcsOf nodes arcs → (rounds : ℕ) → HasStates IsState nodes (moment_after reducer steps arcs rounds)
  states_after nodes arcs fact zero v below = program.start_is_state v (let few = fact.few in omega arith)
  states_after nodes arcs fact (suc rounds) v below =
      let before = states_after nodes arcs fact rounds in
      program.settle_is_state (state_after reducer steps arcs rounds v) (brought reducer steps arcs (moment_after reducer steps arcs rounds) v)
      (before v below) (brought_is_value nodes arcs (moment_after reducer steps arcs rounds) fact.within before v)

  -- what two lists bring
  pub brought-append : (nodes : ℕ) (some rest : List Arc) (moment : Moment State) → All (IsArcOf nodes) some → All (IsArcOf nodes) rest → HasStates IsState nodes moment → (v : ℕ) → brought reducer steps (some ++ rest) moment v ≡ reducer.combine (brought reducer steps some moment v) (brought reducer steps rest moment v)
  unfolding brought
  brought-append nodes some rest moment ws wr states v =
      ap (combined reducer (carried_along steps moment)) (filter-append (λ arc. arc.head == v && moment.awake arc.tail) some rest)
      ∙ combined-append reduction (carried_along steps moment) (live_arcs moment some v) (live_arcs moment rest v) (values_along nodes some moment ws states v) (values_along nodes rest moment wr states v)

  -- what the arcs of all hosts bring
  pub brought-flat_map : (nodes : ℕ) (share : ℕ → List Arc) (hosts : List ℕ) (moment : Moment State) → AllByRecursion (λ host. All (IsArcOf nodes) (share host)) hosts → HasStates IsState nodes moment → (v : ℕ) → brought reducer steps (flat_map share hosts) moment v ≡ combined reducer (λ host. brought reducer steps (share host) moment v) hosts
  unfolding brought
  brought-flat_map nodes share [] moment within states v = refl
  brought-flat_map nodes share (host ∷ hosts) moment within states v =
      brought-append nodes (share host) (flat_map share hosts) moment within.0 (All-flat_map (IsArcOf nodes) share hosts within.1) states v
      ∙ ap (reducer.combine (brought reducer steps (share host) moment v)) (brought-flat_map nodes share hosts moment within.1 states v)

  pub shares_bring : SharesBring reducer steps
  shares_bring nodes arcs share hosts rounds v fact within =
      brought-flat_map nodes share hosts (moment_after reducer steps arcs rounds) (recursion_from_All (λ host. All (IsArcOf nodes) (share host)) hosts within) (states_after nodes arcs fact rounds) v

  -- where no arc is live, arcs bring the identity
  none_live : (arcs : List Arc) (moment : Moment State) (v : ℕ) → live_arcs moment arcs v ≡ [] → brought reducer steps arcs moment v ≡ reducer.identity
  unfolding brought
  none_live arcs moment v none = ap (combined reducer (carried_along steps moment)) none

  -- where all vertices sleep, no arc is live
  all_asleep : (nodes : ℕ) (arcs : List Arc) (moment : Moment State) → All (IsArcOf nodes) arcs → ((u : ℕ) → u < nodes → moment.awake u ≡ false) → (v : ℕ) → live_arcs moment arcs v ≡ []
  all_asleep nodes arcs moment within asleep v =
      filter_none (λ arc. arc.head == v && moment.awake arc.tail) arcs
      (recursion_from_All (λ arc. (arc.head == v && moment.awake arc.tail) ≡ false) arcs
      (All-weaker (IsArcOf nodes) (λ arc. (arc.head == v && moment.awake arc.tail) ≡ false)
      (λ arc fact. and_false (arc.head == v) (moment.awake arc.tail) (asleep arc.tail fact.tail_within)) arcs within))

  pub only_reached_change : OnlyReachedChange reducer steps
  only_reached_change nodes arcs rounds v fact below none =
      ap (steps.settle (state_after reducer steps arcs (suc rounds) v)) (none_live arcs (moment_after reducer steps arcs (suc rounds)) v none)
      ∙ program.settle_then_identity (state_after reducer steps arcs rounds v) (brought reducer steps arcs (moment_after reducer steps arcs rounds) v)
      (states_after nodes arcs fact rounds v below) (brought_is_value nodes arcs (moment_after reducer steps arcs rounds) fact.within (states_after nodes arcs fact rounds) v)

  -- after a quiet round all vertices sleep
  asleep_after : (nodes : ℕ) (arcs : List Arc) (rounds : ℕ) → AreArcsOf nodes arcs → IsQuietRound reducer steps nodes arcs rounds → (u : ℕ) → u < nodes → (moment_after reducer steps arcs (suc rounds)).awake u ≡ false
  asleep_after nodes arcs rounds fact quiet u below =
      ap not ((program.same_tells (shown_after reducer steps arcs rounds u) (shown_after reducer steps arcs (suc rounds) u)
      (program.shown_is_value (state_after reducer steps arcs rounds u) (states_after nodes arcs fact rounds u below))
      (program.shown_is_value (state_after reducer steps arcs (suc rounds) u) (states_after nodes arcs fact (suc rounds) u below))).1 (sym (quiet u below)))

  -- so no state changes in the next
  still_after : (nodes : ℕ) (arcs : List Arc) (rounds : ℕ) → AreArcsOf nodes arcs → IsQuietRound reducer steps nodes arcs rounds → (v : ℕ) → v < nodes → state_after reducer steps arcs (suc (suc rounds)) v ≡ state_after reducer steps arcs (suc rounds) v
  still_after nodes arcs rounds fact quiet v below =
      only_reached_change nodes arcs rounds v fact below
      (all_asleep nodes arcs (moment_after reducer steps arcs (suc rounds)) fact.within (asleep_after nodes arcs rounds fact quiet) v)

  -- and the next round is quiet too
  quiet_after : (nodes : ℕ) (arcs : List Arc) (rounds : ℕ) → AreArcsOf nodes arcs → IsQuietRound reducer steps nodes arcs rounds → IsQuietRound reducer steps nodes arcs (suc rounds)
  quiet_after nodes arcs rounds fact quiet u below = ap steps.shown (still_after nodes arcs rounds fact quiet u below)

  -- and so on
  stays : (nodes : ℕ) (arcs : List Arc) (more rounds later v : ℕ) → AreArcsOf nodes arcs → IsQuietRound reducer steps nodes arcs rounds → v < nodes → later ≡ more + suc rounds → state_after reducer steps arcs later v ≡ state_after reducer steps arcs (suc rounds) v
  stays nodes arcs zero rounds later v fact quiet below is = ap (λ n. state_after reducer steps arcs n v) (let same : later ≡ suc rounds = omega arith in same)
  stays nodes arcs (suc more) rounds later v fact quiet below is =
      stays nodes arcs more (suc rounds) later v fact (quiet_after nodes arcs rounds fact quiet) below (omega arith)
      ∙ still_after nodes arcs rounds fact quiet v below

  pub quiet_stays : QuietStays reducer steps
  quiet_stays nodes arcs rounds later v fact below quiet after =
      stays nodes arcs (later - suc rounds) rounds later v fact quiet below (omega arith)

  pub last_stays : LastStays reducer steps
  last_stays nodes arcs rounds later v fact below count after =
      quiet_stays nodes arcs count.before later v fact below count.quiet (let last = count.last in omega arith)
      ∙ ap (λ n. state_after reducer steps arcs n v) (sym count.last)
