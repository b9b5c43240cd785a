-- Numbers by place, and the line of a channel as it was read.
use Rattle.std.proofs.Common.{◌≡◌, ◌∙◌, ℕ, ◌+◌, ◌<◌, List, length, take, get_or, slice_get, Some, ap, sym, arith}
use Rattle.std.specs.List.{range_with_len}
use Rattle.std.proofs.lemmas.List.{take_all}
use Rattle.std.proofs.lemmas.List.FromFn.{length-range_with_len, get_or-range_with_len}
use Rattle.std.proofs.lemmas.Option.{get_or_from_slice_get}
use Rattle.answer_writer.specs.Trace.{trace_line}
use Rattle.packet_table.specs.declared.channel_spec.ChannelSpec.{ChannelSpec}
use Rattle.packet_table.specs.declared.channel_spec.Leg.TheVariants.{Reduce}
use Rattle.packet_table.specs.Table.{Table, payload_of}
use Rattle.run_text.specs.Lines.{channel_line}

-- numbers from 0 on stand at their places
pub number_at : (count i : ℕ) → i < count → i ≡ get_or (range_with_len 0 count) i 0
number_at count i within = let same : 0 + i ≡ i = omega arith in sym (get_or-range_with_len 0 count i 0 within ∙ same)

pub number_within : (count i : ℕ) → i < count → i < length (range_with_len 0 count)
number_within count i within = let long = length-range_with_len 0 count in omega arith

-- all numbers below a count
pub all_numbers : (count i : ℕ) → i ≡ count → take i (range_with_len 0 count) ≡ range_with_len 0 count
all_numbers count i is = let long = length-range_with_len 0 count in take_all i (range_with_len 0 count) (omega arith)

-- the line of a channel, as it was read
pub line_of : (round : ℕ) (table : Table) (id : ℕ) (spec : ChannelSpec) (payload : List ℕ) → slice_get table.specs id ≡ Some spec → payload ≡ payload_of table id →
    trace_line round spec payload ≡ channel_line round table id
line_of round table id spec payload is same =
    let read = get_or_from_slice_get table.specs id spec (record { leg = Reduce; from = 0; to = 0; room = 0 }) is in
    ap (λ s. trace_line round s payload) (sym read) ∙ ap (trace_line round (get_or table.specs id (record { leg = Reduce; from = 0; to = 0; room = 0 }))) same
