use Rattle.std.proofs.Common.{take}
use Rattle.std.specs.List.{flat_map}
use Rattle.io_edge.specs.Writing.{WroteAll, state_of}
use Rattle.graph_division.specs.Division.{hosts_of}
use Rattle.graph_division.specs.Partition.{division_of}
use Rattle.partition_text.specs.Lists.{line_between}
use Rattle.partition_text.proofs.lists.write_lists_from.Given as goal

-- the lists with the receivers so far are written
abbrev pub invariant-loop-to : goal.invariant-loop-to
invariant-loop-to g l =
    let division = division_of l.agreed.way l.agreed.graphs.now in
    WroteAll (state_of g.K.Sink l.initial.sink) (state_of g.K.Sink l.sink)
    (flat_map (line_between l.leg division l.from) (take l.to (hosts_of division)))
