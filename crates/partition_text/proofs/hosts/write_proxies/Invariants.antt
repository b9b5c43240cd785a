use Rattle.std.proofs.Common.{take}
use Rattle.std.specs.List.{flat_map}
use Rattle.io_edge.specs.Writing.{WroteAll, state_of}
use Rattle.graph_division.specs.Shares.{proxies_here}
use Rattle.partition_text.specs.Hosts.{proxy_line}
use Rattle.partition_text.proofs.hosts.write_proxies.Given as goal

-- the proxies so far are written
abbrev pub invariant-loop-lid : goal.invariant-loop-lid
invariant-loop-lid g l =
    WroteAll (state_of g.K.Sink l.initial.sink) (state_of g.K.Sink l.sink) (flat_map (proxy_line l.way l.graph) (take l.lid (proxies_here l.graph)))
