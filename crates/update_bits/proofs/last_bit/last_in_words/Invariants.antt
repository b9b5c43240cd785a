use Rattle.std.proofs.Common.{◌≡◌, ℕ, ◌*◌, ◌<◌, ◌≤◌, false}
use Rattle.list_laws.specs.Bits.{bit_in}
use Rattle.update_bits.proofs.last_bit.last_in_words.Given as goal

-- no bit of the words that were passed is set
abbrev pub invariant-loop-left : goal.invariant-loop-left
invariant-loop-left l = (l.left ≤ l.count) × ((k : ℕ) → l.left * 64 ≤ k → k < l.count * 64 → bit_in l.words k ≡ false)

abbrev pub decreases-loop-left : goal.decreases-loop-left
decreases-loop-left l = l.left
