-- The lines of channels, as a table holds them.
use Rattle.std.specs.Prelude.{ℕ, List}
use Rattle.std.specs.List.{slice_index_or}
use Rattle.answer_writer.specs.Trace.{trace_line}
use Rattle.packet_table.specs.declared.channel_spec.Leg.TheVariants.{Reduce}
use Rattle.packet_table.specs.Table.{Table, payload_of}

-- the line of the channel of a number, with what was last posted on it
abbrev pub channel_line : (round : ℕ) → Table → (id : ℕ) → List ℕ
channel_line round table id =
    trace_line round (slice_index_or table.specs id (record { leg = Reduce; from = 0; to = 0; room = 0 })) (payload_of table id)
