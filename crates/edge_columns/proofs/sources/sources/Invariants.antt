use Rattle.std.proofs.Common.{◌≡◌, ◌+◌, take}
use Rattle.edge_columns.specs.Columns.{sources_by}
use Rattle.edge_columns.proofs.sources.sources.Given as goal

abbrev pub invariant-loop-node : goal.invariant-loop-node
invariant-loop-node l = l.sources.items ≡ sources_by (take (l.node + 1) l.starts)
