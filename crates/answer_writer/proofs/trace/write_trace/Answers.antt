use Rattle.std.proofs.Common.{[], ◌∷◌, ◌++◌}
use Rattle.hex.specs.Hex.{encode_lower}
use Rattle.io_edge.proofs.Writings.{WroteFront-++, WroteFront-more, WroteBy-++, WroteBy-err}
use Rattle.answer_writer.proofs.trace.write_trace.Goals as goal

pub returns-in_err-write_head : goal.returns-in_err-write_head
returns-in_err-write_head g c = record {
  written = WroteBy-err c.from_residual.ensures.0 (WroteFront-more (encode_lower c.args.payload.now ++ 10 ∷ []) c.in_err-write_head.ensures.written.front);
}

pub returns-in_err-write_hex : goal.returns-in_err-write_hex
returns-in_err-write_hex g c = record {
  written = WroteBy-err c.from_residual-in_err-write_hex.ensures.0
      (WroteFront-++ c.in_ok-write_head.ensures.written.all (WroteFront-more (10 ∷ []) c.in_err-write_hex.ensures.written.front));
}

pub returns : goal.returns
returns g c = record {
  written = WroteBy-++ c.in_ok-write_head.ensures.written.all (WroteBy-++ c.in_ok-write_hex.ensures.written.all c.write_whole.ensures.written);
}
