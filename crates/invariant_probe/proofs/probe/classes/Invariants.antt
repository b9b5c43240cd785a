use Rattle.std.proofs.Common.{◌≡◌, take}
use Rattle.graph_division.specs.Classes.{has_out, has_in, has_both, no_mirror}
use Rattle.invariant_probe.proofs.probe.classes.Given as goal

-- what the mirrors of the graphs so far lack
abbrev pub invariant-loop-graph : goal.invariant-loop-graph
invariant-loop-graph l = record {
  no_out : l.all.no_out ≡ no_mirror has_out (take l.graph-index l.graphs);
  no_in : l.all.no_in ≡ no_mirror has_in (take l.graph-index l.graphs);
  no_both : l.all.no_both ≡ no_mirror has_both (take l.graph-index l.graphs);
}
