use Rattle.std.proofs.Common.{take}
use Rattle.std.specs.List.{flat_map}
use Rattle.io_edge.specs.Writing.{WroteAll, state_of}
use Rattle.partition_text.specs.Hosts.{host_text}
use Rattle.partition_text.proofs.hosts.write_hosts.Given as goal

-- the hosts so far are written
abbrev pub invariant-loop-graph : goal.invariant-loop-graph
invariant-loop-graph g l =
    WroteAll (state_of g.K.Sink l.initial.sink) (state_of g.K.Sink l.sink) (flat_map (host_text l.way) (take l.graph-index l.graphs))
