use Rattle.std.proofs.Common.{◌≡◌, ◌*◌, ◌-◌, ◌≤◌, ◌++◌, length, vec_len}
use Rattle.list_laws.specs.LittleEndian.{whole_numbers}
use Rattle.graph_model.specs.Graph.{most_edges}
use Rattle.gr_reader.specs.File.{destination_fault}
use Rattle.gr_reader.proofs.columns.push_destinations.Given as goal

abbrev pub invariant-loop-front : goal.invariant-loop-front
invariant-loop-front l = record {
  pushed : l.destinations.items ++ whole_numbers 4 l.rest ≡ l.fn.destinations.items ++ whole_numbers 4 l.piece;
  clear : destination_fault l.nodes (vec_len l.destinations) (whole_numbers 4 l.rest) ≡ destination_fault l.nodes (vec_len l.fn.destinations) (whole_numbers 4 l.piece);
  room : length l.rest ≤ 4 * (most_edges - vec_len l.destinations);
}

abbrev pub decreases-loop-front : goal.decreases-loop-front
decreases-loop-front l = length l.rest
