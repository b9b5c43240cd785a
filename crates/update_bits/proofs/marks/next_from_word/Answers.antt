use Rattle.std.proofs.Common.{◌≡◌, ◌≤◌, ◌*◌, ◌/◌, arith, inl, inr}
use Rattle.std.proofs.lemmas.Bool.{cases_lt}
use Rattle.update_bits.proofs.FirstBits.{first_later, none_in_word}
use Rattle.update_bits.proofs.Marked.{none_between}
use Rattle.update_bits.proofs.marks.next_from_word.Goals as goal

pub returns-then-word-ne0 : goal.returns-then-word-ne0
returns-then-word-ne0 c =
    let place = c.in-Some.place in
    let first = c.in-Some.ensures in
    let order : c.args.start * 64 ≤ place * 64 = omega (arith, c.loop-place.invariant.0, first.since) in
    (first_later c.args.words.now (c.args.start * 64) place (omega (arith, c.type_inv.words place)) (omega arith) order
    (none_between c.args.words.now c.args.marks.now c.args.start c.loop-place.from place c.requires.marks c.loop-place.invariant.1 first.first)).1

pub loop-place-preserved : goal.loop-place-preserved
loop-place-preserved c =
    let place = c.in-Some.place in
    let first = c.in-Some.ensures in (
      omega (arith, c.loop-place.invariant.0, first.since),
      (λ k since before.
          elim (cases_lt k (place * 64)) [
            | inl low ↦ none_between c.args.words.now c.args.marks.now c.args.start c.loop-place.from place c.requires.marks c.loop-place.invariant.1 first.first k since low
            | inr high ↦
                let here : k / 64 ≡ place = omega arith in
                none_in_word c.args.words.now k (rw here c.if-word-ne0.false)
          ]),
    )

pub returns : goal.returns
returns c k since =
    elim (cases_lt k (c.loop-place.from * 64)) [
      | inl low ↦ c.loop-place.invariant.1 k since low
      | inr high ↦ c.requires.marks.marked k (c.in_default.ensures (k / 64) (omega arith))
    ]
