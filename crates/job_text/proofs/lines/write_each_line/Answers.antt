use Rattle.std.proofs.Common.{ℕ, List, ap, sym, subst}
use Rattle.io_edge.specs.Writing.{WroteBy, state_of}
use Rattle.job_text.specs.Lines.{lines_text}
use Rattle.job_text.proofs.lines.write_each_line.Goals as goal

pub returns-in-Divided : goal.returns-in-Divided
returns-in-Divided g c = record {
  written = subst (λ (text : List ℕ). WroteBy c.write_partition.result (state_of g.K.Sink c.args.sink.now) (state_of g.K.Sink c.write_partition.new.sink) text) (ap lines_text (sym c.in-Divided.is)) c.write_partition.ensures.written;
}
