use Rattle.std.proofs.Common.{◌≡◌, ℕ, ◌*◌, ◌<◌, ◌≤◌, false}
use Rattle.list_laws.specs.Bits.{bit_in}
use Rattle.update_bits.proofs.words.next_bit.Given as goal

-- no bit of the words that were passed is set
abbrev pub invariant-loop-later : goal.invariant-loop-later
invariant-loop-later l = (k : ℕ) → l.i ≤ k → k < l.later * 64 → bit_in l.words k ≡ false
