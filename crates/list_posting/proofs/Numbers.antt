-- A channel has one number.
use Rattle.std.proofs.Common.{◌≡◌, ℕ, ◌<◌, List, length, get_or, Some, arith, sym, ap, ◌∙◌, subst, inl, inr}
use Rattle.std.specs.Prelude.{IsSomeAnd, slice_get}
use Rattle.std.proofs.lemmas.Bool.{cases_order}
use Rattle.std.proofs.lemmas.Option.{slice_get_cases, slice_get_within, get_or_from_slice_get}
use Rattle.packet_table.specs.declared.channel_spec.Leg.{Leg}
use Rattle.packet_table.specs.declared.channel_spec.ChannelSpec.{ChannelSpec}
use Rattle.packet_table.specs.Order.{leg_place, Precedes, Rise, Joins, IsChannelAt}

-- the channel of a number
pub channel_at : (specs : List ChannelSpec) (id : ℕ) (leg : Leg) (from to : ℕ) → IsChannelAt specs id leg from to
    → (spec : ChannelSpec) × (id < length specs) × (slice_get specs id ≡ Some spec) × Joins leg from to spec
channel_at specs id leg from to at =
    elim (slice_get_cases specs id).1 [
      | inl here ↦ (here.0, here.1, here.2, subst (λ o. IsSomeAnd o (Joins leg from to)) here.2 at)
      | inr past ↦ absurd (subst (λ o. IsSomeAnd o (Joins leg from to)) past.1 at)
    ]

-- no channel stands before another of the same leg between the same hosts
not_before : (specs : List ChannelSpec) (leg : Leg) (from to i j : ℕ) (a b : ChannelSpec) → Rise specs → i < j
    → slice_get specs i ≡ Some a → slice_get specs j ≡ Some b → Joins leg from to a → Joins leg from to b → ⊥
not_before specs leg from to i j a b rise less at_i at_j is_a is_b =
    let first : get_or specs i a ≡ a = get_or_from_slice_get specs i a a at_i in
    let second : get_or specs j a ≡ b = get_or_from_slice_get specs j b a at_j in
    let in_order : Precedes (get_or specs i a) (get_or specs j a) = rise i j a less (slice_get_within specs j b at_j) in
    let before : Precedes a b = subst (λ x. Precedes x b) first (subst (λ y. Precedes (get_or specs i a) y) second in_order) in
    let of_leg : leg_place a.leg ≡ leg_place b.leg = ap leg_place (is_a.of_leg ∙ sym is_b.of_leg) in
    let of_sender : a.from ≡ b.from = is_a.of_sender ∙ sym is_b.of_sender in
    omega (arith, before.by_receiver (of_leg, of_sender), is_a.of_receiver, is_b.of_receiver)

-- channels of one leg between the same hosts have one number
pub one_place : (specs : List ChannelSpec) (leg : Leg) (from to i j : ℕ) (a b : ChannelSpec) → Rise specs
    → slice_get specs i ≡ Some a → slice_get specs j ≡ Some b → Joins leg from to a → Joins leg from to b → i ≡ j
one_place specs leg from to i j a b rise at_i at_j is_a is_b =
    elim (cases_order i j) [
      | inl same ↦ same
      | inr (inl less) ↦ absurd (not_before specs leg from to i j a b rise less at_i at_j is_a is_b)
      | inr (inr more) ↦ absurd (not_before specs leg from to j i b a rise more at_j at_i is_b is_a)
    ]

pub one_number : (specs : List ChannelSpec) (leg : Leg) (from to i j : ℕ) → Rise specs → IsChannelAt specs i leg from to → IsChannelAt specs j leg from to → i ≡ j
one_number specs leg from to i j rise at_i at_j =
    let a = channel_at specs i leg from to at_i in
    let b = channel_at specs j leg from to at_j in
    one_place specs leg from to i j a.0 b.0 rise a.2 b.2 a.3 b.3
