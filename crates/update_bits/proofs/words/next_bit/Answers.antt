use Rattle.std.proofs.Common.{◌≡◌, ◌*◌, ◌/◌, arith, inl, inr}
use Rattle.std.proofs.lemmas.Bool.{cases_lt}
use Rattle.update_bits.proofs.FirstBits.{first_later, none_in_word}
use Rattle.update_bits.proofs.words.next_bit.Goals as goal

pub loop-later-init : goal.loop-later-init
loop-later-init c k since before = c.in_default.ensures k since (omega arith)

pub loop-later-preserved : goal.loop-later-preserved
loop-later-preserved c k since before =
    elim (cases_lt k (c.loop-later.later * 64)) [
      | inl low ↦ c.loop-later.invariant k since low
      | inr high ↦
          let place : k / 64 ≡ c.loop-later.later = omega arith in
          none_in_word c.args.words.now k (rw place (omega arith))
    ]

pub returns-then-words-later-ne0 : goal.returns-then-words-later-ne0
returns-then-words-later-ne0 c =
    (first_later c.args.words.now c.args.i c.loop-later.later (omega (arith, c.type_inv.words c.loop-later.later)) (omega arith) (omega arith) c.loop-later.invariant).1
