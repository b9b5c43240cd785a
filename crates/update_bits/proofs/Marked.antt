-- Words and their marks: what calls make of both, and how a search goes by the marks.
use Rattle.std.proofs.Common.{◌≡◌, ℕ, ◌+◌, ◌*◌, ◌/◌, ◌^◌, ◌<◌, ◌≤◌, true, false, Bool, List, length, get_or, replicate, refl, sym, ap, subst, ◌∙◌, arith, inl, inr}
use Rattle.std.specs.Prelude.{nat_lt, Option, Some, None}
use Rattle.std.proofs.lemmas.Bool.{cases_eq, cases_lt, lt-ltb, true≢false}
use Rattle.std.proofs.lemmas.List.{length-replicate}
use Rattle.list_laws.specs.Bits.{bit_in}
use Rattle.update_bits.specs.Words.{AreWords, AreMarks, IsNextBit}
use Rattle.update_bits.proofs.Held.{OneBit, AreWords-one, AreWords-all, AreWords-none, bit_in-zeros, bit_in-past}
use Rattle.std.specs.Int.{trailing_zeros, w64}
use Rattle.update_bits.proofs.FirstBits.{first_later, none_in_word}

-- ---- what a call makes of words and marks

-- where no bit was set the marks may stay
pub AreMarks-fewer : (words new marks : List ℕ) → AreMarks words marks → length new ≡ length words → ((k : ℕ) → bit_in words k ≡ false → bit_in new k ≡ false) → AreMarks new marks
AreMarks-fewer words new marks h len stays = record {
  places = subst (λ n. AreWords n marks) (sym len) h.places;
  marked = λ k unmarked. stays k (h.marked k unmarked);
}

-- where one bit was cleared
pub AreMarks-cleared : (words new marks : List ℕ) (i : ℕ) → AreMarks words marks → OneBit words new i false → AreMarks new marks
AreMarks-cleared words new marks i h one =
    AreMarks-fewer words new marks h one.len (λ k none. elim (cases_eq k i) [ inl same ↦ ap (bit_in new) same ∙ one.at | inr other ↦ one.others k other ∙ none ])

-- where a bit was set its word has its mark
pub AreMarks-set : (words new marks now : List ℕ) (i : ℕ) → AreMarks words marks → i / 64 < length words → OneBit words new i true → OneBit marks now (i / 64) true → AreMarks new now
AreMarks-set words new marks now i h inside one mark = record {
  places = subst (λ n. AreWords n now) (sym one.len) (AreWords-one (length words) marks now (i / 64) true h.places inside mark);
  marked = λ k unmarked. elim (cases_eq (k / 64) (i / 64)) [
    | inl same ↦ absurd (true≢false (sym mark.at ∙ ap (bit_in now) (sym same) ∙ unmarked))
    | inr other ↦ one.others k (λ e. other (ap (λ n. n / 64) e)) ∙ h.marked k (sym (mark.others (k / 64) other) ∙ unmarked)
  ];
}

-- a word with a bit that is set has its mark
pub has_mark : (words marks : List ℕ) (place : ℕ) → AreMarks words marks → get_or words place 0 < 2 ^ 64 → 0 < get_or words place 0 → bit_in marks place ≡ true
has_mark words marks place h short some =
    let found = first_later words (place * 64) place short some (omega arith) (λ k low high. absurd (omega arith)) in
    let zeros = trailing_zeros w64 (get_or words place 0) in
    let here : (place * 64 + zeros) / 64 ≡ place = omega (arith, found.0) in
    split (bit_in marks place) refl here found.1.set
  where
    split : (b : Bool) → bit_in marks place ≡ b → (place * 64 + trailing_zeros w64 (get_or words place 0)) / 64 ≡ place → bit_in words (place * 64 + trailing_zeros w64 (get_or words place 0)) ≡ true → b ≡ true
    split true is here set = refl
    split false is here set = absurd (true≢false (sym set ∙ h.marked (place * 64 + trailing_zeros w64 (get_or words place 0)) (ap (bit_in marks) here ∙ is)))

-- where each word has its mark the words may be any
pub AreMarks-all : (words new marks now : List ℕ) → AreMarks words marks → length new ≡ length words → length now ≡ length marks → ((k : ℕ) → bit_in now k ≡ nat_lt k (length new)) → AreMarks new now
AreMarks-all words new marks now h len same each = record {
  places = AreWords-all (length new) marks now (subst (λ n. AreWords n marks) (sym len) h.places) same each;
  marked = λ k unmarked. elim (cases_lt (k / 64) (length new)) [
    | inl inside ↦ absurd (true≢false (sym (lt-ltb (k / 64) (length new) inside) ∙ sym (each (k / 64)) ∙ unmarked))
    | inr past ↦ bit_in-past new k past
  ];
}

-- words that are all 0 need no mark
pub AreMarks-none : (words marks : ℕ) → words < 2 ^ 32 → marks ≡ (words + 63) / 64 → AreMarks (replicate words 0) (replicate marks 0)
AreMarks-none words marks short enough = record {
  places = subst (λ n. AreWords n (replicate marks 0)) (sym (length-replicate words 0)) (AreWords-none words (replicate marks 0) short (length-replicate marks 0 ∙ enough) (bit_in-zeros marks));
  marked = λ k _. bit_in-zeros words k;
}

-- where no mark is set no bit is
pub none_marked : (words marks : List ℕ) → AreMarks words marks → ((place : ℕ) → place < length marks → get_or marks place 0 ≡ 0) → (k : ℕ) → bit_in words k ≡ false
none_marked words marks h none k =
    h.marked k (elim (cases_lt (k / 64 / 64) (length marks)) [
      | inl inside ↦ none_in_word marks (k / 64) (none (k / 64 / 64) inside)
      | inr past ↦ bit_in-past marks (k / 64) past
    ])

-- ---- a search by the marks

-- no bit is set in words that were passed, nor in those that have no mark
pub none_between : (words marks : List ℕ) (start from place : ℕ) → AreMarks words marks → ((k : ℕ) → start * 64 ≤ k → k < from * 64 → bit_in words k ≡ false)
    → ((p : ℕ) → from ≤ p → p < place → bit_in marks p ≡ false) → (k : ℕ) → start * 64 ≤ k → k < place * 64 → bit_in words k ≡ false
none_between words marks start from place h passed unmarked k since before =
    elim (cases_lt k (from * 64)) [
      | inl low ↦ passed k since low
      | inr high ↦ h.marked k (unmarked (k / 64) (omega arith) (omega arith))
    ]

-- the next bit from a later one on, where none before it is set
pub next_later : (words : List ℕ) (i later : ℕ) (next : Option ℕ) → i ≤ later → ((k : ℕ) → i ≤ k → k < later → bit_in words k ≡ false) → IsNextBit words later next → IsNextBit words i next
next_later words i later None order passed none = λ k since. elim (cases_lt k later) [ inl low ↦ passed k since low | inr high ↦ none k high ]
next_later words i later (Some m) order passed first = record {
  set = first.set;
  since = let since : later ≤ m = first.since in omega arith;
  first = λ k since before. elim (cases_lt k later) [ inl low ↦ passed k since low | inr high ↦ first.first k high before ];
}
