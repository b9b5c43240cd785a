use Rattle.std.proofs.Common.{◌≡◌, ◌≤◌, ◌+◌, ◌*◌, length, take, drop, sym, ap, ◌∙◌, arith, refl, Ok, Err}
use Rattle.field_encodings.specs.declared.decode_fault.DecodeFault.TheVariants.{Length}
use Rattle.field_encodings.specs.Lengths.{vector_length}
use Rattle.field_encodings.specs.Places.{set_from}
use Rattle.field_encodings.proofs.ReaderLemmas.{bits_wrong, bits_right}
use Rattle.field_encodings.proofs.readers.read_bits.Goals as goal

pub returns-then-text-wanted : goal.returns-then-text-wanted
returns-then-text-wanted g c =
    let width : c.div_ceil-width.result ≡ vector_length c.args.count = omega (arith, c.div_ceil-width.ensures) in
    let long : vector_length c.args.count ≤ length c.args.text.now = omega (arith, c.if-text-width.false) in
    let front = c.split_at.ensures.front ∙ ap (λ n. take n c.args.text.now) width in
    let back = c.split_at.ensures.back ∙ ap (λ n. drop n c.args.text.now) width in
    let wanted : c.div_ceil-width.result + c.count_set.result * c.WIDTH.result ≡ vector_length c.args.count + length (set_from c.split_at.result.0.now 0) * g.W.Word.WIDTH
    = rw (width, c.count_set.ensures, c.WIDTH.ensures) refl in
    ap Err (c.wrong_length-then-text-wanted.ensures ∙ ap (λ n. Length (1 + n) (1 + length c.args.text.now)) wanted)
    ∙ sym (bits_wrong g.W.Word.WIDTH g.W.Word.value_of c.args.count c.args.text.now c.split_at.result.0.now c.split_at.result.1.now long front back
    (sym c.has_set_from.ensures ∙ c.if-has_set_from.false) (λ e. c.if-text-wanted.true (e ∙ sym wanted)))

pub returns : goal.returns
returns g c =
    let width : c.div_ceil-width.result ≡ vector_length c.args.count = omega (arith, c.div_ceil-width.ensures) in
    let long : vector_length c.args.count ≤ length c.args.text.now = omega (arith, c.if-text-width.false) in
    let front = c.split_at.ensures.front ∙ ap (λ n. take n c.args.text.now) width in
    let back = c.split_at.ensures.back ∙ ap (λ n. drop n c.args.text.now) width in
    let wanted : c.div_ceil-width.result + c.count_set.result * c.WIDTH.result ≡ vector_length c.args.count + length (set_from c.split_at.result.0.now 0) * g.W.Word.WIDTH
    = rw (width, c.count_set.ensures, c.WIDTH.ensures) refl in
    ap Ok c.new.ensures
    ∙ sym (bits_right g.W.Word.WIDTH g.W.Word.value_of c.args.count c.args.text.now c.split_at.result.0.now c.split_at.result.1.now long front back
    (sym c.has_set_from.ensures ∙ c.if-has_set_from.false) (c.if-text-wanted.false ∙ wanted))
