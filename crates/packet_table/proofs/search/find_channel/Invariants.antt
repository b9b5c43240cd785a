use Rattle.std.proofs.Common.{ℕ, ◌-◌, ◌<◌, ◌≤◌, length}
use Rattle.std.specs.List.{slice_index_or}
use Rattle.packet_table.specs.Order.{ComesBefore}
use Rattle.packet_table.specs.declared.channel_spec.ChannelSpec.{ChannelSpec}
use Rattle.packet_table.proofs.search.find_channel.Given as goal

-- the channels before low stand before the wanted one, and those from high on after it
abbrev pub invariant-loop-low : goal.invariant-loop-low
invariant-loop-low l = record {
  within : (l.low ≤ l.high) × (l.high ≤ length l.specs);
  before : (k : ℕ) (d : ChannelSpec) → k < l.low → let spec = slice_index_or l.specs k d in ComesBefore spec.leg spec.from spec.to l.leg l.from l.to;
  after : (k : ℕ) (d : ChannelSpec) → l.high ≤ k → k < length l.specs → let spec = slice_index_or l.specs k d in ComesBefore l.leg l.from l.to spec.leg spec.from spec.to;
}

abbrev pub decreases-loop-low : goal.decreases-loop-low
decreases-loop-low l = l.high - l.low
