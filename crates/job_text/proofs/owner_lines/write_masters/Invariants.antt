use Rattle.std.proofs.Common.{take}
use Rattle.io_edge.specs.Writing.{WroteAll, state_of}
use Rattle.job_text.specs.Numbered.{numbered}
use Rattle.job_text.specs.Owners.{master_line}
use Rattle.job_text.proofs.owner_lines.write_masters.Given as goal

-- the lines so far are written
abbrev pub invariant-loop-v : goal.invariant-loop-v
invariant-loop-v g l = WroteAll (state_of g.K.Sink l.initial.sink) (state_of g.K.Sink l.sink) (numbered master_line 0 (take l.v l.masters.masters))
