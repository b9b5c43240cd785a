use Rattle.std.proofs.Common.{◌≡◌, ◌*◌, ◌-◌, ◌≤◌, ◌++◌, length, vec_len}
use Rattle.list_laws.specs.LittleEndian.{whole_numbers}
use Rattle.graph_model.specs.Graph.{most_nodes}
use Rattle.edge_columns.specs.Columns.{last_entry}
use Rattle.gr_reader.specs.File.{entry_fault}
use Rattle.gr_reader.proofs.index.push_entries.Given as goal

abbrev pub invariant-loop-front : goal.invariant-loop-front
invariant-loop-front l = record {
  pushed : l.entries.items ++ whole_numbers 8 l.rest ≡ l.fn.entries.items ++ whole_numbers 8 l.piece;
  lasts : last_entry l.last (whole_numbers 8 l.rest) ≡ last_entry l.before (whole_numbers 8 l.piece);
  clear : entry_fault (vec_len l.entries) l.last (whole_numbers 8 l.rest) ≡ entry_fault (vec_len l.fn.entries) l.before (whole_numbers 8 l.piece);
  room : length l.rest ≤ 8 * (most_nodes - vec_len l.entries);
}

abbrev pub decreases-loop-front : goal.decreases-loop-front
decreases-loop-front l = length l.rest
