use Rattle.std.proofs.Common.{arith}
use Rattle.io_edge.proofs.Writings.{WroteAll-++, WroteBy-err}
use Rattle.job_text.specs.Owners.{master_line}
use Rattle.job_text.proofs.AnswerLines.{numbered-take_more, WroteFront-lines}
use Rattle.job_text.proofs.owner_lines.write_masters.Goals as goal

pub loop-v-preserved : goal.loop-v-preserved
loop-v-preserved g c =
    rw (numbered-take_more master_line c.args.masters.now.masters c.loop-v.v c.master.result 0 (omega arith) c.master.ensures.master)
    (WroteAll-++ c.loop-v.invariant c.in_ok-write_master.ensures.written.all)

pub returns-in_err-write_master : goal.returns-in_err-write_master
returns-in_err-write_master g c = record {
  written = WroteBy-err c.from_residual.ensures.0
      (WroteFront-lines master_line c.args.masters.now.masters c.loop-v.v c.master.result 0 (omega arith) c.master.ensures.master c.loop-v.invariant c.in_err-write_master.ensures.written.front);
}
