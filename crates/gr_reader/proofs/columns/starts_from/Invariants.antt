use Rattle.std.proofs.Common.{◌≡◌, ◌∷◌, take}
use Rattle.gr_reader.proofs.columns.starts_from.Given as goal

abbrev pub invariant-loop-end : goal.invariant-loop-end
invariant-loop-end l = l.starts.items ≡ 0 ∷ take l.end-index l.ends
