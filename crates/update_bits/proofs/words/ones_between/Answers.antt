use Rattle.std.proofs.Common.{ℕ, ◌≤◌, ◌^◌, List, length, take, arith}
use Rattle.std.proofs.lemmas.List.{length-take}
use Rattle.list_laws.specs.Bits.{unpacked}
use Rattle.list_laws.specs.Members.{count_of}
use Rattle.list_laws.proofs.Bits.{length-unpacked}
use Rattle.list_laws.proofs.Members.{count_of-le-length}
use Rattle.update_bits.proofs.Between.{count_of-between}
use Rattle.update_bits.proofs.words.ones_between.Goals as goal

-- so few bits are set below a place
few : (words : List ℕ) (end : ℕ) → length words ≤ 2 ^ 26 → count_of (take end (unpacked 64 words)) ≤ 2 ^ 32
few words end short = omega (arith, count_of-le-length (take end (unpacked 64 words)), length-take end (unpacked 64 words), length-unpacked 64 words)

pub overflow_add-result : goal.overflow_add-result
overflow_add-result c = omega (arith, c.ones_of_words-whole.ensures, c.ones_up_to.ensures, few c.args.words.now c.args.end c.requires.short)

pub overflow_sub-result : goal.overflow_sub-result
overflow_sub-result c =
    omega (arith, c.ones_of_words-whole.ensures, c.ones_up_to.ensures, c.ones_up_to-2.ensures, count_of-between (unpacked 64 c.args.words.now) c.args.start c.args.end c.requires.order)

pub returns : goal.returns
returns c =
    omega (arith, c.ones_of_words-whole.ensures, c.ones_up_to.ensures, c.ones_up_to-2.ensures, count_of-between (unpacked 64 c.args.words.now) c.args.start c.args.end c.requires.order)
