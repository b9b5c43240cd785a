use Rattle.std.proofs.Common.{◌≡◌, ◌+◌, ◌*◌, ◌++◌, ◌<◌, ◌∙◌, sym, ap, arith, ℕ, List, Bool, take, length, length-append}
use Rattle.std.specs.Prelude.{count_by, slice_get}
use Rattle.list_laws.specs.Bits.{unpacked}
use Rattle.list_laws.specs.Members.{members, count_of}
use Rattle.list_laws.proofs.Members.{members_since, members-take-since}
use Rattle.list_laws.proofs.Places.{slice_get-append_right}
use Rattle.update_bits.specs.Words.{set_in, AreWords}
use Rattle.update_bits.proofs.Held.{length-set_in, count-unpacked, members_before}
use Rattle.update_bits.proofs.update_bits.UpdateBits.nth.Goals as goal

pub word_of_nth-word-requires-clause-within : goal.word_of_nth-word-requires-clause-within
word_of_nth-word-requires-clause-within c =
    let all : count_by (λ b. b) (unpacked 64 c.deref.result.now) ≡ count_of c.args.self.now
    = ap (λ words. count_by (λ b. b) (unpacked 64 words)) c.deref.ensures.value ∙ count-unpacked c.self.inside.count c.self.inside.words.items c.self.invariant.0 ∙ ap count_of c.self.view_is in
    omega (arith, all, c.requires)

pub nth_since-requires-clause-start : goal.nth_since-requires-clause-start
nth_since-requires-clause-start c =
    let words : List ℕ = c.self.inside.words.items in
    let front = members_before c.self.inside.count c.word_of_nth-word.result.0 words c.self.invariant.0 (omega (arith, c.word_of_nth-word.ensures.word, ap length c.deref.ensures.value)) in
    omega (arith, front.0, ap length c.self.view_is, length-set_in c.self.inside.count words c.self.invariant.0.enough)

-- the members before the word, those from it on, and how many come before
split : (count word left place : ℕ) (words seen : List ℕ) (bits : List Bool) → AreWords count words → set_in count words ≡ bits → seen ≡ words → word < length seen
    → count_by (λ b. b) (unpacked 64 (take word seen)) + left ≡ place
    → (members (take (word * 64) bits) ++ members_since bits (word * 64) ≡ members bits) × (length (members (take (word * 64) bits)) + left ≡ place)
split count word left place words seen bits h view same inside before =
    let front = members_before count word words h (omega (arith, ap length same)) in
    let length_is : length bits ≡ count = ap length (sym view) ∙ length-set_in count words h.enough in
    let counted : length (members (take (word * 64) bits)) ≡ count_by (λ b. b) (unpacked 64 (take word seen))
    = ap (λ bits. length (members (take (word * 64) bits))) (sym view) ∙ front.1 ∙ ap (λ words. count_by (λ b. b) (unpacked 64 (take word words))) (sym same) in
    (members-take-since bits (word * 64) (omega (arith, front.0)), omega (arith, counted, before))

pub nth_since-requires-clause-place : goal.nth_since-requires-clause-place
nth_since-requires-clause-place c =
    let word : ℕ = c.word_of_nth-word.result.0 in
    let left : ℕ = c.word_of_nth-word.result.1 in
    let bits : List Bool = c.args.self.now in
    let parts = split c.self.inside.count word left c.args.place c.self.inside.words.items c.deref.result.now bits c.self.invariant.0 c.self.view_is c.deref.ensures.value c.word_of_nth-word.ensures.word c.word_of_nth-word.ensures.before in
    omega (arith, c.requires, parts.1, ap length parts.0, length-append (members (take (word * 64) bits)) (members_since bits (word * 64)))

pub returns : goal.returns
returns c =
    let word : ℕ = c.word_of_nth-word.result.0 in
    let left : ℕ = c.word_of_nth-word.result.1 in
    let bits : List Bool = c.args.self.now in
    let parts = split c.self.inside.count word left c.args.place c.self.inside.words.items c.deref.result.now bits c.self.invariant.0 c.self.view_is c.deref.ensures.value c.word_of_nth-word.ensures.word c.word_of_nth-word.ensures.before in
    ap (λ all. slice_get all c.args.place) (sym parts.0)
    ∙ ap (slice_get (members (take (word * 64) bits) ++ members_since bits (word * 64))) (sym parts.1)
    ∙ slice_get-append_right (members (take (word * 64) bits)) (members_since bits (word * 64)) left
    ∙ c.nth_since.ensures

pub nth_since-requires-clause-short : goal.nth_since-requires-clause-short
nth_since-requires-clause-short c =
    omega (arith, ap length c.self.view_is, length-set_in c.self.inside.count c.self.inside.words.items c.self.invariant.0.enough, c.self.invariant.0.short)
