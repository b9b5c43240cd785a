-- What the order of channels tells a bisection.
use Rattle.std.specs.Prelude.{◌≡◌, ℕ, ◌+◌, ◌≤◌, ◌<◌, List, length, IsSomeAnd}
use Rattle.std.specs.List.{slice_index_or}
use Rattle.std.proofs.Common.{arith, sym, subst}
use Rattle.std.proofs.lemmas.List.{get_or_default}
use Rattle.std.proofs.lemmas.Option.{slice_get-get_or}
use Rattle.std.proofs.lemmas.Bool.{cases_lt}
use Rattle.std.proofs.Common.{inl, inr}
use Rattle.packet_table.specs.declared.channel_spec.Leg.{Leg}
use Rattle.packet_table.specs.declared.channel_spec.ChannelSpec.{ChannelSpec}
use Rattle.packet_table.specs.Order.{ComesBefore, Rise, Joins, IsChannelAt}

-- what comes before what comes before comes before
pub ComesBefore-trans : (leg : Leg) (from to : ℕ) (leg' : Leg) (from' to' : ℕ) (leg'' : Leg) (from'' to'' : ℕ)
    → ComesBefore leg from to leg' from' to' → ComesBefore leg' from' to' leg'' from'' to'' → ComesBefore leg from to leg'' from'' to''
ComesBefore-trans leg from to leg' from' to' leg'' from'' to'' a b =
    record { by_leg = omega arith; by_sender = λ e. omega arith; by_receiver = λ e. omega arith }

-- a channel comes before that of the leg between the two hosts
abbrev IsBefore : Leg → ℕ → ℕ → ChannelSpec → Type 0
IsBefore leg from to spec = ComesBefore spec.leg spec.from spec.to leg from to

-- a channel comes after that of the leg between the two hosts
abbrev IsAfter : Leg → ℕ → ℕ → ChannelSpec → Type 0
IsAfter leg from to spec = ComesBefore leg from to spec.leg spec.from spec.to

-- up to a channel that comes before the wanted one all do
pub before_more : (specs : List ChannelSpec) (leg : Leg) (from to m : ℕ) (e : ChannelSpec) → Rise specs → m < length specs
    → (let spec = slice_index_or specs m e in ComesBefore spec.leg spec.from spec.to leg from to)
    → (k : ℕ) (d : ChannelSpec) → k < m + 1 → let spec = slice_index_or specs k d in ComesBefore spec.leg spec.from spec.to leg from to
before_more specs leg from to m e rise h here k d below =
    let at_m = subst (IsBefore leg from to) (get_or_default specs m e d h) here in
    let a = slice_index_or specs k d in
    let b = slice_index_or specs m d in
    elim (cases_lt k m) [
      | inl less ↦ ComesBefore-trans a.leg a.from a.to b.leg b.from b.to leg from to (rise k m d less h) at_m
      | inr more ↦ let same : m ≡ k = omega arith in subst (λ n. IsBefore leg from to (slice_index_or specs n d)) same at_m
    ]

-- from a channel on that comes after the wanted one all do
pub after_more : (specs : List ChannelSpec) (leg : Leg) (from to m : ℕ) (e : ChannelSpec) → Rise specs → m < length specs
    → (let spec = slice_index_or specs m e in ComesBefore leg from to spec.leg spec.from spec.to)
    → (k : ℕ) (d : ChannelSpec) → m ≤ k → k < length specs → let spec = slice_index_or specs k d in ComesBefore leg from to spec.leg spec.from spec.to
after_more specs leg from to m e rise h here k d above within =
    let at_m = subst (IsAfter leg from to) (get_or_default specs m e d h) here in
    let a = slice_index_or specs m d in
    let b = slice_index_or specs k d in
    elim (cases_lt m k) [
      | inl less ↦ ComesBefore-trans leg from to a.leg a.from a.to b.leg b.from b.to at_m (rise m k d less within)
      | inr more ↦ let same : m ≡ k = omega arith in subst (λ n. IsAfter leg from to (slice_index_or specs n d)) same at_m
    ]

-- a channel of a place stands there
pub found_at : (specs : List ChannelSpec) (leg : Leg) (from to m : ℕ) (d : ChannelSpec) → m < length specs → Joins leg from to (slice_index_or specs m d) → IsChannelAt specs m leg from to
found_at specs leg from to m d h joins = subst (λ o. IsSomeAnd o (Joins leg from to)) (sym (slice_get-get_or specs m d h)) joins
