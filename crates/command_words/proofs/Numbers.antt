-- What a text of digits that is not read says.
use Rattle.std.proofs.Common.{◌≡◌, ◌<◌, ◌^◌, ℕ, true, false, [], ◌∷◌, None, refl, subst, arith, nat_le, inl, inr}
use Rattle.std.specs.Char.{is_ascii_digit, digit_value}
use Rattle.std.specs.List.{list_all}
use Rattle.std.specs.Str.Parse.{AllDigits, IsNumeral, digits_value, without_leading_plus}
use Rattle.std.proofs.lemmas.Bool.{cases_lt, lt-leb}
use Rattle.command_words.specs.Items.{Text}
use Rattle.command_words.specs.Values.{number_of}

digit_fits : (c : ℕ) → is_ascii_digit c ≡ true → digit_value c < 10
digit_fits c h = grind arith

pub are_numeral : (text : Text) → list_all is_ascii_digit text ≡ true → AllDigits 10 text
are_numeral [] h = tt
are_numeral (c ∷ cs) h = (digit_fits c (grind arith), are_numeral cs (grind arith))

pub no_plus : (text : Text) → list_all is_ascii_digit text ≡ true → without_leading_plus text ≡ text
no_plus [] h = refl
no_plus (c ∷ cs) h = grind arith

over : (least most : ℕ) (text : Text) → most < digits_value 10 text → number_of least most text ≡ None
over least most text h =
    let d : nat_le (digits_value 10 text) most ≡ false = lt-leb (digits_value 10 text) most h in
    rw d (grind arith)

-- digits that no number of 64 bits is made of are no number of the range
pub number_unread : (least most : ℕ) (text : Text) → most < 2 ^ 64 → list_all is_ascii_digit text ≡ true
    → ¬ (IsNumeral 10 (without_leading_plus text) × (digits_value 10 (without_leading_plus text) < 2 ^ 64)) → number_of least most text ≡ None
number_unread least most [] small digits unread = refl
number_unread least most (c ∷ cs) small digits unread =
    let plain = no_plus (c ∷ cs) digits in
    let numeral : IsNumeral 10 (c ∷ cs) = (omega arith, are_numeral (c ∷ cs) digits) in
    let no : (IsNumeral 10 (c ∷ cs) × (digits_value 10 (c ∷ cs) < 2 ^ 64)) → ⊥ =
    subst (λ (t : Text). (IsNumeral 10 t × (digits_value 10 t < 2 ^ 64)) → ⊥) plain unread in
    elim (cases_lt (digits_value 10 (c ∷ cs)) (2 ^ 64)) [
      | inl fits ↦ absurd (no (numeral, fits))
      | inr past ↦ over least most (c ∷ cs) (omega arith)
    ]
