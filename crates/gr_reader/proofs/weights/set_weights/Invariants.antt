use Rattle.std.proofs.Common.{◌≡◌, ◌+◌, ◌/◌, ◌++◌, length, take, drop}
use Rattle.list_laws.specs.LittleEndian.{whole_numbers}
use Rattle.edge_columns.specs.Columns.{weighed}
use Rattle.gr_reader.proofs.weights.set_weights.Given as goal

abbrev pub invariant-loop-front : goal.invariant-loop-front
invariant-loop-front l = record {
  set_so_far : take l.place l.edges ++ weighed (drop l.place l.edges) (whole_numbers 4 l.rest) ≡ weighed l.fn.edges (whole_numbers 4 l.piece);
  count : l.place + length l.rest / 4 ≡ length l.piece / 4;
}

abbrev pub decreases-loop-front : goal.decreases-loop-front
decreases-loop-front l = length l.rest
