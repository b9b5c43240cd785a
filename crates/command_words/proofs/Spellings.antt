-- What the parser's lexer makes of a word, by its spelling.
use Rattle.std.proofs.Common.{◌≡◌, ◌∙◌, ◌<◌, ℕ, Bool, true, false, List, [], ◌∷◌, length, nat_eq, Option, Some, None, refl, sym, ap, subst, arith}
use Rattle.std.specs.Prelude.{slice_get}
use Rattle.std.specs.Str.{bytes_eq, chars, IsUtf8, encode_utf8_all}
use Rattle.std.specs.Char.{encode_utf8}
use Rattle.std.proofs.lemmas.Str.{encodes-chars}
use Rattle.std.proofs.lemmas.Bool.Decides.{Decides-eqb}
use Rattle.clap.specs.Lexer.{long_of, short_of}
use Rattle.command_words.specs.Items.{Text, plain, end_of_options, name, stray, spelling_of}

-- a word as both see it
pub data View (word : Text) : Type 0 where
  is_plain_word : spelling_of word ≡ plain → bytes_eq word (45 ∷ 45 ∷ []) ≡ false → long_of word ≡ None → short_of word ≡ None → View word
  is_end : spelling_of word ≡ end_of_options → bytes_eq word (45 ∷ 45 ∷ []) ≡ true → View word
  is_name : (option : Text) (value : Option Text) → spelling_of word ≡ name option value → bytes_eq word (45 ∷ 45 ∷ []) ≡ false
      → long_of word ≡ Some (option, value) → View word
  is_stray : (first : ℕ) (flags : Text) → spelling_of word ≡ stray → bytes_eq word (45 ∷ 45 ∷ []) ≡ false → long_of word ≡ None
      → short_of word ≡ Some flags → 0 < length flags → slice_get (chars flags) 0 ≡ Some first → View word

-- the characters after a hyphen (45)
after_hyphen : (b : ℕ) (bs : Text) → chars (45 ∷ b ∷ bs) ≡ 45 ∷ chars (b ∷ bs)
unfolding chars
after_hyphen b bs = refl

first_or_none : (cs : List ℕ) → ((c : ℕ) → slice_get cs 0 ≡ Some c → ⊥) → cs ≡ []
first_or_none [] none = refl
first_or_none (c ∷ cs) none = absurd (none c refl)

hyphen_alone : encode_utf8_all (45 ∷ []) ≡ 45 ∷ []
unfolding encode_utf8
hyphen_alone = refl

-- a text after a hyphen has a first character
pub first_char : (b : ℕ) (bs : Text) → IsUtf8 (45 ∷ b ∷ bs) → (c : ℕ) × (slice_get (chars (b ∷ bs)) 0 ≡ Some c)
first_char b bs utf8 = go (chars (b ∷ bs)) refl
  where
    go : (cs : List ℕ) → chars (b ∷ bs) ≡ cs → (c : ℕ) × (slice_get cs 0 ≡ Some c)
    go (c ∷ cs) e = (c, refl)
    go [] e =
        let alone : encode_utf8_all (45 ∷ []) ≡ 45 ∷ b ∷ bs =
        ap encode_utf8_all (ap (λ (x : List ℕ). 45 ∷ x) (sym e) ∙ sym (after_hyphen b bs)) ∙ encodes-chars (45 ∷ b ∷ bs) utf8 in
        let short : 1 ≡ length (45 ∷ b ∷ bs) = ap length (sym hyphen_alone ∙ alone) in
        absurd (omega (arith, short))

-- equal numbers, and others, by the test both ways
same_number : (a : ℕ) → nat_eq a 45 ≡ true → 45 ≡ a
same_number a e = sym ((Decides-eqb a 45).0 e)

other_number : (a : ℕ) → nat_eq a 45 ≡ false → nat_eq 45 a ≡ false
other_number a e = go (nat_eq 45 a) refl
  where
    go : (b : Bool) → nat_eq 45 a ≡ b → b ≡ false
    go false f = refl
    go true f = sym ((Decides-eqb a 45).1 (sym ((Decides-eqb 45 a).0 f))) ∙ e

-- no hyphen stands first
plain_view : (a : ℕ) (bs : Text) → nat_eq a 45 ≡ false → View (a ∷ bs)
plain_view a bs e =
    let f = other_number a e in
    is_plain_word (rw f refl) (rw e refl) (rw e refl) (rw e refl)

-- two hyphens stand first
long_view : (bs : Text) → View (45 ∷ 45 ∷ bs)
long_view [] = is_end refl refl
long_view (b ∷ bs) = is_name _ _ refl refl refl

stray_view : (b : ℕ) (bs : Text) → nat_eq b 45 ≡ false → IsUtf8 (45 ∷ b ∷ bs) → View (45 ∷ b ∷ bs)
stray_view b bs e utf8 =
    let f = other_number b e in
    let first = first_char b bs utf8 in
    is_stray first.0 (b ∷ bs) (rw f refl) (rw e refl) (rw e refl) (rw e refl) (omega arith) first.1

hyphen_view : (b : ℕ) (bs : Text) → IsUtf8 (45 ∷ b ∷ bs) → View (45 ∷ b ∷ bs)
hyphen_view b bs utf8 = go (nat_eq b 45) refl
  where
    go : (x : Bool) → nat_eq b 45 ≡ x → View (45 ∷ b ∷ bs)
    go true e = subst (λ (n : ℕ). View (45 ∷ n ∷ bs)) (same_number b e) (long_view bs)
    go false e = stray_view b bs e utf8

lone_view : View (45 ∷ [])
lone_view = is_plain_word refl refl refl refl

first_hyphen : (bs : Text) → IsUtf8 (45 ∷ bs) → View (45 ∷ bs)
first_hyphen [] utf8 = lone_view
first_hyphen (b ∷ bs) utf8 = hyphen_view b bs utf8

-- each word is seen in one of these ways
pub view : (word : Text) → IsUtf8 word → View word
view [] utf8 = is_plain_word refl refl refl refl
view (a ∷ bs) utf8 = go (nat_eq a 45) refl
  where
    go : (x : Bool) → nat_eq a 45 ≡ x → View (a ∷ bs)
    go true e = subst (λ (n : ℕ). IsUtf8 (n ∷ bs) → View (n ∷ bs)) (same_number a e) (first_hyphen bs) utf8
    go false e = plain_view a bs e
