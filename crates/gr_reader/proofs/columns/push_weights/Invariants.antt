use Rattle.std.proofs.Common.{◌≡◌, ◌++◌, length}
use Rattle.list_laws.specs.LittleEndian.{whole_numbers}
use Rattle.gr_reader.proofs.columns.push_weights.Given as goal

abbrev pub invariant-loop-front : goal.invariant-loop-front
invariant-loop-front l = l.weights.items ++ whole_numbers 4 l.rest ≡ l.fn.weights.items ++ whole_numbers 4 l.piece

abbrev pub decreases-loop-front : goal.decreases-loop-front
decreases-loop-front l = length l.rest
