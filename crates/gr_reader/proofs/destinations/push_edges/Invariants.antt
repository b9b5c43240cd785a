use Rattle.std.proofs.Common.{◌≡◌, ◌*◌, ◌+◌, ◌-◌, ◌/◌, ◌≤◌, ◌++◌, length, drop, vec_len}
use Rattle.list_laws.specs.LittleEndian.{whole_numbers}
use Rattle.edge_columns.specs.Columns.{last_entry, sources, plain_edges}
use Rattle.gr_reader.specs.File.{destination_fault}
use Rattle.gr_reader.specs.EdgeLists.{IsCursor}
use Rattle.gr_reader.proofs.destinations.push_edges.Given as goal

abbrev pub invariant-loop-front : goal.invariant-loop-front
invariant-loop-front l = record {
  pushed : l.edges.items ++ plain_edges (drop (vec_len l.edges) (sources 0 0 l.ends)) (whole_numbers 4 l.rest)
      ≡ l.fn.edges.items ++ plain_edges (drop (vec_len l.fn.edges) (sources 0 0 l.ends)) (whole_numbers 4 l.piece);
  count : vec_len l.edges + length l.rest / 4 ≡ vec_len l.fn.edges + length l.piece / 4;
  cursor : IsCursor l.ends l.source (vec_len l.edges);
  clear : destination_fault l.nodes (vec_len l.edges) (whole_numbers 4 l.rest) ≡ destination_fault l.nodes (vec_len l.fn.edges) (whole_numbers 4 l.piece);
  room : length l.rest ≤ 4 * (last_entry 0 l.ends - vec_len l.edges);
}

abbrev pub decreases-loop-front : goal.decreases-loop-front
decreases-loop-front l = length l.rest
