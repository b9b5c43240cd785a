use Rattle.std.specs.Prelude.{◌≡◌, ℕ, ◌*◌, ◌<◌, sum, vec_len}
use Rattle.std.specs.List.{slice_index_or}
use Rattle.packet_table.specs.declared.channel_spec.Leg.TheVariants.{Spread}
use Rattle.packet_table.specs.declared.channel_spec.ChannelSpec.{ChannelSpec}
use Rattle.packet_table.specs.Table.{rooms_of}
use Rattle.packet_table.proofs.tests.fan.Given as goal

-- the channel at each place so far goes to the host of that number
abbrev pub invariant-loop-to : goal.invariant-loop-to
invariant-loop-to l = record {
  count : vec_len l.specs ≡ l.to;
  rooms : sum (rooms_of l.specs.items) ≡ 3 * l.to;
  at : (k : ℕ) (d : ChannelSpec) → k < l.to → let spec : ChannelSpec = record { leg = Spread; from = 7; to = k; room = 3 } in slice_index_or l.specs.items k d ≡ spec;
}
