use Rattle.std.proofs.Common.{ℕ, ◌/◌, ◌%◌, ◌∙◌, ap, sym, refl, arith, inl, inr, slice_index_or}
use Rattle.std.specs.Prelude.{nat_eq}
use Rattle.std.specs.Int.{w64, bit_at}
use Rattle.std.proofs.lemmas.Bool.{cases_eq, eq-eqb}
use Rattle.std.proofs.lemmas.Nat.Bits.{bit_at_set_same, bit_at_set_other}
use Rattle.update_bits.proofs.Held.{bit_in-set, bit_in-set_other}
use Rattle.update_bits.proofs.words.set_bit.Goals as goal

pub returns-clause-set : goal.returns-clause-set
returns-clause-set c =
    let word : ℕ = slice_index_or c.args.words.now (c.args.i / 64) 0 in
    bit_in-set c.args.words.now (c.args.i / 64) _ c.args.i c.requires refl
    ∙ eq-eqb _ 1 (bit_at_set_same w64 word (c.args.i % 64) (omega arith))

pub returns-clause-others : goal.returns-clause-others
returns-clause-others c k apart =
    let word : ℕ = slice_index_or c.args.words.now (c.args.i / 64) 0 in
    elim (cases_eq (k / 64) (c.args.i / 64)) [
      | inl same ↦
          bit_in-set c.args.words.now (c.args.i / 64) _ k c.requires same
          ∙ ap (λ b. nat_eq b 1) (bit_at_set_other w64 word (c.args.i % 64) (omega arith) (k % 64) (λ e. apart (omega arith)))
          ∙ ap (λ p. nat_eq (bit_at (slice_index_or c.args.words.now p 0) (k % 64)) 1) (sym same)
      | inr other ↦ bit_in-set_other c.args.words.now (c.args.i / 64) _ k other
    ]
