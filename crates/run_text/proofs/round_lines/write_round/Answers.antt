use Rattle.std.proofs.Common.{length, ap, arith}
use Rattle.std.specs.List.{flat_map, range_with_len}
use Rattle.io_edge.proofs.Writings.{WroteBy-err}
use Rattle.run_text.specs.Lines.{channel_line}
use Rattle.io_edge.proofs.Texts.{all_as, front_as, WroteAll-texts, WroteFront-texts}
use Rattle.run_text.proofs.Places.{number_at, number_within, all_numbers, line_of}
use Rattle.run_text.proofs.round_lines.write_round.Goals as goal

pub loop-id-preserved : goal.loop-id-preserved
loop-id-preserved g c =
    let table = c.args.channels.now in
    let count = length table.specs in
    WroteAll-texts (channel_line c.args.round table) (range_with_len 0 count) c.loop-id.id c.loop-id.id 0 (number_within count c.loop-id.id (omega arith)) (number_at count c.loop-id.id (omega arith))
    c.loop-id.invariant (all_as (line_of c.args.round table c.loop-id.id c.spec.result c.payload.result.now c.spec.ensures c.payload.ensures.payload) c.in_ok-write_trace.ensures.written.all)

pub returns-in_err-write_trace : goal.returns-in_err-write_trace
returns-in_err-write_trace g c =
    let table = c.args.channels.now in
    let count = length table.specs in
    record {
      written = WroteBy-err c.from_residual.ensures.0
          (WroteFront-texts (channel_line c.args.round table) (range_with_len 0 count) c.loop-id.id c.loop-id.id 0 (number_within count c.loop-id.id (omega arith)) (number_at count c.loop-id.id (omega arith))
          c.loop-id.invariant (front_as (line_of c.args.round table c.loop-id.id c.spec.result c.payload.result.now c.spec.ensures c.payload.ensures.payload) c.in_err-write_trace.ensures.written.front));
    }

pub returns : goal.returns
returns g c =
    let table = c.args.channels.now in
    let count = c.count-id-end.ensures.count in
    record {
      written = record {
        all = all_as (ap (flat_map (channel_line c.args.round table)) (all_numbers (length table.specs) c.loop-id.id (omega arith))) c.loop-id.invariant;
        front = tt;
      };
    }
