-- The order of channels: by leg, then by sender, then by receiver.
use Rattle.std.specs.Prelude.{◌≡◌, ℕ, ◌≤◌, ◌<◌, List, All, AllPairs, IsSomeAnd, slice_get}
use Rattle.std.specs.declared.cmp.Ordering.{Ordering}
use Rattle.std.specs.declared.cmp.Ordering.TheVariants.{Less, Equal, Greater}
use Rattle.packet_table.specs.declared.channel_spec.Leg.{Leg}
use Rattle.packet_table.specs.declared.channel_spec.Leg.TheVariants.{Reduce, Spread}
use Rattle.packet_table.specs.declared.channel_spec.ChannelSpec.{ChannelSpec}

-- the legs in the order in which a round has them
abbrev pub leg_place : Leg → ℕ
leg_place Reduce = 0
leg_place Spread = 1

-- one leg between two hosts comes before another
pub record ComesBefore (leg : Leg) (from to : ℕ) (leg' : Leg) (from' to' : ℕ) : Type 0 where
  -- by leg
  pub by_leg : leg_place leg ≤ leg_place leg'
  -- of one leg by sender
  pub by_sender : leg_place leg ≡ leg_place leg' → from ≤ from'
  -- of one leg and sender by receiver, strictly
  pub by_receiver : (leg_place leg ≡ leg_place leg') × (from ≡ from') → to < to'

-- a channel comes before another
abbrev pub Precedes : ChannelSpec → ChannelSpec → Type 0
Precedes a b = ComesBefore a.leg a.from a.to b.leg b.from b.to

-- channels rise strictly
abbrev pub Rise : List ChannelSpec → Type 0
Rise specs = AllPairs Precedes specs

-- a channel carries packets of this leg from one host to another
pub record Joins (leg : Leg) (from to : ℕ) (spec : ChannelSpec) : Type 0 where
  pub of_leg : spec.leg ≡ leg
  pub of_sender : spec.from ≡ from
  pub of_receiver : spec.to ≡ to

-- the channel of this number is that of the leg between the two hosts
abbrev pub IsChannelAt : List ChannelSpec → ℕ → Leg → ℕ → ℕ → Type 0
IsChannelAt specs id leg from to = IsSomeAnd (slice_get specs id) (Joins leg from to)

-- no channel is that of the leg between the two hosts
abbrev pub HasNoChannel : List ChannelSpec → Leg → ℕ → ℕ → Type 0
HasNoChannel specs leg from to = All (λ spec. ¬ (Joins leg from to spec)) specs

-- how a channel stands to that of the leg between the two hosts
abbrev pub IsOrder : ChannelSpec → Leg → ℕ → ℕ → Ordering → Type 0
IsOrder spec leg from to Less = ComesBefore spec.leg spec.from spec.to leg from to
IsOrder spec leg from to Equal = Joins leg from to spec
IsOrder spec leg from to Greater = ComesBefore leg from to spec.leg spec.from spec.to
