use Rattle.std.proofs.Common.{◌∙◌, refl, arith, w64}
use Rattle.list_laws.proofs.WholeNumbers.{to_le_bytes-le}
use Rattle.io_edge.proofs.Writings.{WroteAll-[], WroteBy-err}
use Rattle.gr_writer.proofs.Parts.{WroteAll-number, WroteFront-number}
use Rattle.gr_writer.proofs.write.write_numbers.Goals as goal

pub loop-number-init : goal.loop-number-init
loop-number-init g c = WroteAll-[] _

pub returns-in_err-write_whole : goal.returns-in_err-write_whole
returns-in_err-write_whole g c =
    WroteBy-err c.from_residual.ensures.0
    (WroteFront-number 8 c.args.numbers.now c.loop-number.number-index _ _ (omega arith) refl (c.to_le_bytes.ensures ∙ to_le_bytes-le w64 _) c.loop-number.invariant c.in_err-write_whole.ensures.written.front)

pub loop-number-preserved : goal.loop-number-preserved
loop-number-preserved g c =
    WroteAll-number 8 c.args.numbers.now c.loop-number.number-index _ _ (omega arith) refl (c.to_le_bytes.ensures ∙ to_le_bytes-le w64 _) c.loop-number.invariant c.in_ok-write_whole.ensures.written.all
