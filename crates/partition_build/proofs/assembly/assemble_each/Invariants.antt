use Rattle.std.proofs.Common.{◌≡◌, ◌+◌, ◌≤◌, ◌++◌, length}
use Rattle.std.specs.List.{All}
use Rattle.std.specs.Vec.Iter.{into_iter_items}
use Rattle.graph_model.specs.Graph.{most_nodes}
use Rattle.partition_build.specs.Rooms.{IsRoom, shares_from}
use Rattle.partition_build.proofs.assembly.assemble_each.Given as goal

-- the shares so far, and then those of the rooms still to come, are the shares of all rooms
abbrev pub invariant-loop-edges : goal.invariant-loop-edges
invariant-loop-edges l = record {
  all : l.graphs.items ++ shares_from l.plan l.nodes (length l.graphs.items) (into_iter_items l.edges-iterator) ≡ shares_from l.plan l.nodes 0 l.fn.rooms.items;
  count : length l.graphs.items + length (into_iter_items l.edges-iterator) ≡ l.plan.hosts;
  rooms : All (IsRoom l.nodes) (into_iter_items l.edges-iterator);
  nodes : l.nodes ≡ length l.plan.masters;
  few : l.nodes ≤ most_nodes;
  few_hosts : l.plan.hosts ≤ 64;
}
