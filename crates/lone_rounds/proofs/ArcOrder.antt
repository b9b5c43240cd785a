-- The order in which arcs stand makes no difference.
use Rattle.std.proofs.Common.{◌≡◌, ℕ, zero, suc, ◌<◌, cond, not, ◌&&◌, ◌==◌, List, refl, sym, ◌∙◌, ap}
use Rattle.std.specs.List.{All}
use Rattle.std.specs.List.Sorted.{IsPermutation}
use Rattle.std.proofs.lemmas.List.Elements.{recursion_from_All, All-weaker}
use Rattle.std.proofs.lemmas.List.Sorted.{All-permutation, IsPermutation-sym}
use Rattle.graph_model.specs.Arcs.{Arc}
use Rattle.reduce_laws.specs.ReductionLaws.{Reducer, ReductionLaws, combined}
use Rattle.reduce_laws.specs.ProgramLaws.{Steps, ProgramLaws}
use Rattle.reduce_laws.proofs.Combining.{combined-filter, value_or_identity, combined_same}
use Rattle.reduce_laws.proofs.Reordering.{combined_permuted}
use Rattle.lone_rounds.specs.Moments.{Moment, carried_along, brought, settled, moment_after}
use Rattle.graph_division.specs.ProgramArcs.{IsArcOf, AreArcsOf}
use Rattle.lone_rounds.specs.RoundCount.{IsQuietRound}
use Rattle.lone_rounds.specs.Laws.{ArcOrderIsFree, RoundCountOrderIsFree}
use Rattle.lone_rounds.proofs.Rounds.{HasStates, states_after}

module _ {Item State Shown : Type 0} {IsItem : Item → Type 0} {IsShown : Shown → Type 0} {IsState : State → Type 0} {reducer : Reducer Item} {steps : Steps Item State Shown} (reduction : ReductionLaws IsItem reducer) (program : ProgramLaws IsItem IsShown IsState reducer steps) where
  -- the item along an arc where it is live, and else the identity
  along_or_identity : Moment State → ℕ → Arc → Item
  along_or_identity moment v arc = cond (arc.head == v && moment.awake arc.tail) (carried_along steps moment arc) reducer.identity

  along_value : (nodes : ℕ) (moment : Moment State) → HasStates IsState nodes moment → (arc : Arc) → IsArcOf nodes arc → IsItem (carried_along steps moment arc)
  along_value nodes moment states arc fact =
      program.along_is_value (steps.shown (moment.state arc.tail)) arc.weight (program.shown_is_value (moment.state arc.tail) (states arc.tail fact.tail_within)) fact.weight_fits

  brought_by_each : (nodes : ℕ) (arcs : List Arc) (moment : Moment State) → All (IsArcOf nodes) arcs → HasStates IsState nodes moment → (v : ℕ) → brought reducer steps arcs moment v ≡ combined reducer (along_or_identity moment v) arcs
  unfolding brought along_or_identity
  brought_by_each nodes arcs moment within states v =
      combined-filter reduction (carried_along steps moment) (λ arc. arc.head == v && moment.awake arc.tail) arcs
      (recursion_from_All (λ arc. IsItem (carried_along steps moment arc)) arcs (All-weaker (IsArcOf nodes) (λ arc. IsItem (carried_along steps moment arc)) (along_value nodes moment states) arcs within))

  -- two moments at which the vertices of a graph are alike
  abbrev AreAlike : ℕ → Moment State → Moment State → Type 0
  AreAlike nodes moment other = (v : ℕ) → v < nodes → (moment.state v ≡ other.state v) × (moment.awake v ≡ other.awake v)

  alike_along : (nodes : ℕ) (moment other : Moment State) → AreAlike nodes moment other → (v : ℕ) (arc : Arc) → IsArcOf nodes arc → along_or_identity moment v arc ≡ along_or_identity other v arc
  unfolding along_or_identity
  alike_along nodes moment other alike v arc fact =
      ap (λ b. cond (arc.head == v && b) (carried_along steps moment arc) reducer.identity) (alike arc.tail fact.tail_within).1
      ∙ ap (λ s. cond (arc.head == v && other.awake arc.tail) (steps.along (steps.shown s) arc.weight) reducer.identity) (alike arc.tail fact.tail_within).0

  permuted : (nodes : ℕ) (arcs others : List Arc) (moment other : Moment State) → All (IsArcOf nodes) arcs → IsPermutation arcs others → HasStates IsState nodes moment → HasStates IsState nodes other → AreAlike nodes moment other → (v : ℕ) → brought reducer steps arcs moment v ≡ brought reducer steps others other v
  unfolding along_or_identity
  permuted nodes arcs others moment other within moved states other_states alike v =
      brought_by_each nodes arcs moment within states v
      ∙ combined_same reduction (along_or_identity moment v) (along_or_identity other v) arcs
      (recursion_from_All (λ arc. along_or_identity moment v arc ≡ along_or_identity other v arc) arcs
      (All-weaker (IsArcOf nodes) (λ arc. along_or_identity moment v arc ≡ along_or_identity other v arc) (alike_along nodes moment other alike v) arcs within))
      ∙ sym (combined_permuted reduction (along_or_identity other v) arcs others
      (All-weaker (IsArcOf nodes) (λ arc. IsItem (along_or_identity other v arc))
      (λ arc fact. value_or_identity reduction (arc.head == v && other.awake arc.tail) (carried_along steps other arc) (along_value nodes other other_states arc fact)) arcs within)
      moved)
      ∙ sym (brought_by_each nodes others other (All-permutation (IsArcOf nodes) arcs others moved within) other_states v)

  alike_after : (nodes : ℕ) (arcs others : List Arc) → AreArcsOf nodes arcs → AreArcsOf nodes others → IsPermutation arcs others → (rounds : ℕ) → AreAlike nodes (moment_after reducer steps arcs rounds) (moment_after reducer steps others rounds)
  alike_after nodes arcs others fact other_fact moved zero v below = (refl, refl)
  alike_after nodes arcs others fact other_fact moved (suc rounds) v below =
      let before = alike_after nodes arcs others fact other_fact moved rounds in
      let s = (moment_after reducer steps arcs rounds).state v in
      let same_state = (before v below).0 in
      let now : settled reducer steps arcs (moment_after reducer steps arcs rounds) v ≡ settled reducer steps others (moment_after reducer steps others rounds) v =
      ap (λ x. steps.settle x (brought reducer steps arcs (moment_after reducer steps arcs rounds) v)) same_state
      ∙ ap (steps.settle ((moment_after reducer steps others rounds).state v))
      (permuted nodes arcs others (moment_after reducer steps arcs rounds) (moment_after reducer steps others rounds) fact.within moved
      (states_after reduction program nodes arcs fact rounds) (states_after reduction program nodes others other_fact rounds) before v) in (
        now,
        ap (λ x. not (steps.same (steps.shown x) (steps.shown (settled reducer steps arcs (moment_after reducer steps arcs rounds) v)))) same_state
            ∙ ap (λ x. not (steps.same (steps.shown ((moment_after reducer steps others rounds).state v)) (steps.shown x))) now,
      )

  pub arc_order_is_free : ArcOrderIsFree reducer steps
  arc_order_is_free nodes arcs others rounds v fact moved below =
      (alike_after nodes arcs others fact (record { few = fact.few; within = All-permutation (IsArcOf nodes) arcs others moved fact.within }) moved rounds v below).0

  -- the arcs in another order are arcs of the same nodes
  others_fit : (nodes : ℕ) (arcs others : List Arc) → AreArcsOf nodes arcs → IsPermutation arcs others → AreArcsOf nodes others
  others_fit nodes arcs others fact moved = record { few = fact.few; within = All-permutation (IsArcOf nodes) arcs others moved fact.within }

  -- and a quiet round is quiet on them
  quiet_in_any_order : (nodes : ℕ) (arcs others : List Arc) (rounds : ℕ) → AreArcsOf nodes arcs → IsPermutation arcs others → IsQuietRound reducer steps nodes arcs rounds → IsQuietRound reducer steps nodes others rounds
  quiet_in_any_order nodes arcs others rounds fact moved quiet u below =
      ap steps.shown (sym (arc_order_is_free nodes arcs others (suc rounds) u fact moved below))
      ∙ quiet u below
      ∙ ap steps.shown (arc_order_is_free nodes arcs others rounds u fact moved below)

  pub round_count_order_is_free : RoundCountOrderIsFree reducer steps
  round_count_order_is_free nodes arcs others rounds fact moved count = record {
    before = count.before;
    last = count.last;
    quiet = quiet_in_any_order nodes arcs others count.before fact moved count.quiet;
    first = λ earlier quiet. count.first earlier (quiet_in_any_order nodes others arcs earlier (others_fit nodes arcs others fact moved) (IsPermutation-sym arcs others moved) quiet);
  }
