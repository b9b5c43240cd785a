use Rattle.std.proofs.Common.{◌≡◌, take, length}
use Rattle.list_laws.specs.Members.{without_all}
use Rattle.update_bits.proofs.update_bits.UpdateBits.clear_each.Given as goal

-- the numbers that were passed are out of the set, which keeps its length
abbrev pub invariant-loop-number : goal.invariant-loop-number
invariant-loop-number l = (l.self ≡ without_all l.initial.self (take l.number-index l.numbers)) × (length l.self ≡ length l.initial.self)
