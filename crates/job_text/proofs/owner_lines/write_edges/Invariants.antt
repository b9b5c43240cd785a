use Rattle.std.proofs.Common.{take}
use Rattle.io_edge.specs.Writing.{WroteAll, state_of}
use Rattle.share_plan.specs.Plan.{owner_by}
use Rattle.job_text.specs.Numbered.{numbered}
use Rattle.job_text.specs.Owners.{edge_line}
use Rattle.job_text.proofs.owner_lines.write_edges.Given as goal

-- the lines so far are written
abbrev pub invariant-loop-i : goal.invariant-loop-i
invariant-loop-i g l = WroteAll (state_of g.K.Sink l.initial.sink) (state_of g.K.Sink l.sink) (numbered (edge_line (owner_by l.plan)) 0 (take l.i l.edges))
