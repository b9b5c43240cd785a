use Rattle.std.proofs.Common.{◌≡◌, ◌*◌, ◌/◌, take, length, subst, arith}
use Rattle.hex.specs.Hex.{encode_with, encode_lower}
use Rattle.io_edge.specs.Writing.{WroteAll, state_of}
use Rattle.io_edge.proofs.Writings.{WroteAll-[], WroteBy-err}
use Rattle.answer_writer.proofs.Hexadecimal.{WroteAll-piece, WroteFront-piece, WroteBy-rest}
use Rattle.answer_writer.proofs.trace.write_hex.Goals as goal

pub loop-piece-init : goal.loop-piece-init
unfolding encode_with
loop-piece-init g c = WroteAll-[] (state_of g.K.Sink c.args.sink.now)

pub returns-in_err-write_hex_piece : goal.returns-in_err-write_hex_piece
returns-in_err-write_hex_piece g c = record {
  written = WroteBy-err c.from_residual.ensures.0 (WroteFront-piece c.loop-piece.piece 2048 c.args.bytes.now c.loop-piece.invariant c.in_err-write_hex_piece.ensures.written.front);
}

pub loop-piece-preserved : goal.loop-piece-preserved
loop-piece-preserved g c = WroteAll-piece c.loop-piece.piece 2048 c.args.bytes.now c.loop-piece.invariant c.in_ok-write_hex_piece.ensures.written.all

pub returns : goal.returns
returns g c = record {
  written =
      let all : c.loop-piece.piece ≡ length c.args.bytes.now / 2048 = omega (arith, c.loop-piece-test.false, c.loop-piece.auto.piece-end) in
      WroteBy-rest (length c.args.bytes.now / 2048 * 2048) c.args.bytes.now (subst (λ pieces. WroteAll (state_of g.K.Sink c.args.sink.now) (state_of g.K.Sink c.loop-piece.sink) (encode_lower (take (pieces * 2048) c.args.bytes.now))) all c.loop-piece.invariant) c.write_hex_piece-2.ensures.written;
}
