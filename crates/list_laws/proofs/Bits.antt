-- Truth values and the numbers that they are packed into.
use Rattle.std.proofs.Common.{◌≡◌, ◌<◌, ℕ, zero, suc, ◌+◌, ◌-◌, ◌*◌, ◌/◌, ◌%◌, ◌^◌, Bool, true, false, List, [], ◌∷◌, ◌++◌, length, take, drop, refl, ap, ◌∙◌, arith, append_assoc, inl, inr}
use Rattle.std.specs.Prelude.{nat_eq, replicate}
use Rattle.std.proofs.Math.Nat.{pow-suc}
use Rattle.std.proofs.lemmas.Bool.{eq-eqb, ne_eqb, cases_lt, eqb-true, eqb-false}
use Rattle.std.proofs.lemmas.List.{take_at, drop_at, length-append, length-take, length-drop, take_all, drop_all, replicate-append-replicate, append-nil, take-append-drop}
use Rattle.std.proofs.lemmas.List.Elements.{All-head, All-tail}
use Rattle.std.specs.List.{All, list_any}
use Rattle.list_laws.specs.Bits.{number_of_bits, bits_of, packed, unpacked}

-- ---- bits

pub length-bits_of : (count x : ℕ) → length (bits_of count x) ≡ count
unfolding bits_of
length-bits_of zero x = refl
length-bits_of (suc count) x = ap suc (length-bits_of count (x / 2))

bits_of-zero : (count : ℕ) → bits_of count 0 ≡ replicate count false
unfolding bits_of
bits_of-zero zero = refl
bits_of-zero (suc count) = ap (λ bits. false ∷ bits) (bits_of-zero count)

odd_bits : (x count : ℕ) → bits_of (suc count) (1 + 2 * x) ≡ true ∷ bits_of count x
unfolding bits_of
odd_bits x count =
    let half : (1 + 2 * x) / 2 ≡ x = omega arith in
    rw (half, eq-eqb ((1 + 2 * x) % 2) 1 (omega arith)) refl

even_bits : (x count : ℕ) → bits_of (suc count) (2 * x) ≡ false ∷ bits_of count x
unfolding bits_of
even_bits x count =
    let half : (2 * x) / 2 ≡ x = omega arith in
    rw (half, ne_eqb ((2 * x) % 2) 1 (λ e. omega arith)) refl

-- bits are read back from their number
pub bits_of-number_of_bits : (bits : List Bool) (count spare : ℕ) → length bits + spare ≡ count → bits_of count (number_of_bits bits) ≡ bits ++ replicate spare false
unfolding number_of_bits
bits_of-number_of_bits [] count spare e = let same : count ≡ spare = omega arith in rw same (bits_of-zero spare)
bits_of-number_of_bits (bit ∷ bits) zero spare e = absurd (omega arith)
bits_of-number_of_bits (true ∷ bits) (suc count) spare e = odd_bits (number_of_bits bits) count ∙ ap (λ rest. true ∷ rest) (bits_of-number_of_bits bits count spare (omega arith))
bits_of-number_of_bits (false ∷ bits) (suc count) spare e = even_bits (number_of_bits bits) count ∙ ap (λ rest. false ∷ rest) (bits_of-number_of_bits bits count spare (omega arith))

first_bit : (bit : Bool) (bits : List Bool) (x : ℕ) → nat_eq (x % 2) 1 ≡ bit → number_of_bits bits ≡ x / 2 → number_of_bits (bit ∷ bits) ≡ x
unfolding number_of_bits
first_bit true bits x e rest = let odd : x % 2 ≡ 1 = eqb-true (x % 2) 1 e in rw rest (omega arith)
first_bit false bits x e rest = let odd : x % 2 ≡ 1 → ⊥ = eqb-false (x % 2) 1 e in rw rest (omega arith)

-- a number is read back from its bits
pub number_of_bits-bits_of : (count x : ℕ) → x < 2 ^ count → number_of_bits (bits_of count x) ≡ x
unfolding bits_of number_of_bits
number_of_bits-bits_of zero x h = omega arith
number_of_bits-bits_of (suc count) x h =
    let small : x < 2 ^ count * 2 = rw pow-suc at h in
    first_bit (nat_eq (x % 2) 1) (bits_of count (x / 2)) x refl (number_of_bits-bits_of count (x / 2) (omega arith))

-- bits that are 0 at the end add nothing
pub number_of_bits-padded : (bits : List Bool) (spare : ℕ) → number_of_bits (bits ++ replicate spare false) ≡ number_of_bits bits
unfolding number_of_bits
number_of_bits-padded [] zero = refl
number_of_bits-padded [] (suc spare) = ap (λ x. 2 * x) (number_of_bits-padded [] spare)
number_of_bits-padded (true ∷ bits) spare = ap (λ x. 1 + 2 * x) (number_of_bits-padded bits spare)
number_of_bits-padded (false ∷ bits) spare = ap (λ x. 2 * x) (number_of_bits-padded bits spare)

-- ---- packed truth values

-- padding at the end of a front is padding
take_padded : (count : ℕ) (bits : List Bool) (spare : ℕ) → (less : ℕ) × (take count (bits ++ replicate spare false) ≡ take count bits ++ replicate less false)
take_padded zero bits spare = (0, refl)
take_padded (suc count) [] zero = (0, refl)
take_padded (suc count) [] (suc spare) =
    let rest : (less : ℕ) × (take count ([] ++ replicate spare false) ≡ take count [] ++ replicate less false) = take_padded count [] spare in
    (suc rest.0, ap (λ bits. false ∷ bits) (rest.1 ∙ nothing_left count rest.0))
  where
    nothing_left : (count less : ℕ) → take count [] ++ replicate less false ≡ replicate less false
    nothing_left zero less = refl
    nothing_left (suc count) less = refl
take_padded (suc count) (bit ∷ bits) spare =
    let rest : (less : ℕ) × (take count (bits ++ replicate spare false) ≡ take count bits ++ replicate less false) = take_padded count bits spare in
    (rest.0, ap (λ more. bit ∷ more) rest.1)

drop_padded : (count : ℕ) (bits : List Bool) (spare : ℕ) → (less : ℕ) × (drop count (bits ++ replicate spare false) ≡ drop count bits ++ replicate less false)
drop_padded zero bits spare = (spare, refl)
drop_padded (suc count) [] zero = (0, refl)
drop_padded (suc count) [] (suc spare) =
    let rest : (less : ℕ) × (drop count ([] ++ replicate spare false) ≡ drop count [] ++ replicate less false) = drop_padded count [] spare in
    (rest.0, rest.1 ∙ nothing_left count rest.0)
  where
    nothing_left : (count less : ℕ) → drop count [] ++ replicate less false ≡ replicate less false
    nothing_left zero less = refl
    nothing_left (suc count) less = refl
drop_padded (suc count) (bit ∷ bits) spare = drop_padded count bits spare

-- marks that are not set add nothing at the end
pub packed-padded : (size count : ℕ) (marks : List Bool) (spare : ℕ) → packed size count (marks ++ replicate spare false) ≡ packed size count marks
packed-padded size zero marks spare = refl
packed-padded size (suc count) marks spare =
    let front : (less : ℕ) × (take size (marks ++ replicate spare false) ≡ take size marks ++ replicate less false) = take_padded size marks spare in
    let back : (less : ℕ) × (drop size (marks ++ replicate spare false) ≡ drop size marks ++ replicate less false) = drop_padded size marks spare in
    rw (front.1, back.1, number_of_bits-padded (take size marks) front.0, packed-padded size count (drop size marks) back.0) refl

pub length-packed : (size count : ℕ) (marks : List Bool) → length (packed size count marks) ≡ count
length-packed size zero marks = refl
length-packed size (suc count) marks = ap suc (length-packed size count (drop size marks))

-- packed marks come back, with the bits past the last not set
pub unpacked-packed : (size count : ℕ) (marks : List Bool) (spare : ℕ) → length marks + spare ≡ count * size → unpacked size (packed size count marks) ≡ marks ++ replicate spare false
unpacked-packed size zero [] spare e = let none : spare ≡ 0 = omega arith in rw none refl
unpacked-packed size zero (mark ∷ marks) spare e = absurd (omega arith)
unpacked-packed size (suc count) marks spare e =
    elim (cases_lt (length marks) size) [
      | inl short ↦
          let all : take size marks ≡ marks = take_all size marks (omega arith) in
          let none : drop size marks ≡ [] = drop_all size marks (omega arith) in
          let first : bits_of size (number_of_bits marks) ≡ marks ++ replicate (size - length marks) false = bits_of-number_of_bits marks size (size - length marks) (omega arith) in
          let rest : unpacked size (packed size count []) ≡ [] ++ replicate (count * size) false = unpacked-packed size count [] (count * size) (omega arith) in
          let sum : size - length marks + count * size ≡ spare = omega arith in
          rw (all, none, first, rest, append_assoc marks (replicate (size - length marks) false) (replicate (count * size) false), replicate-append-replicate (size - length marks) (count * size) false, sum) refl
      | inr long ↦
          let whole : length (take size marks) + 0 ≡ size = omega (arith, length-take size marks) in
          let first : bits_of size (number_of_bits (take size marks)) ≡ take size marks ++ replicate 0 false = bits_of-number_of_bits (take size marks) size 0 whole in
          let rest : unpacked size (packed size count (drop size marks)) ≡ drop size marks ++ replicate spare false = unpacked-packed size count (drop size marks) spare (omega (arith, length-drop size marks)) in
          rw (first, rest, append-nil (take size marks), ← append_assoc (take size marks) (drop size marks) (replicate spare false), take-append-drop size marks) refl
    ]

-- bytes come back from their bits
pub packed-unpacked : (size : ℕ) (bytes : List ℕ) → All (λ b. b < 2 ^ size) bytes → packed size (length bytes) (unpacked size bytes) ≡ bytes
packed-unpacked size [] h = refl
packed-unpacked size (b ∷ bytes) h =
    let low : b < 2 ^ size = All-head (λ b. b < 2 ^ size) b bytes h in
    let front : take size (bits_of size b ++ unpacked size bytes) ≡ bits_of size b = take_at (bits_of size b) (unpacked size bytes) size (length-bits_of size b) in
    let back : drop size (bits_of size b ++ unpacked size bytes) ≡ unpacked size bytes = drop_at (bits_of size b) (unpacked size bytes) size (length-bits_of size b) in
    rw (front, back, number_of_bits-bits_of size b low, packed-unpacked size bytes (All-tail (λ b. b < 2 ^ size) b bytes h)) refl

pub length-unpacked : (size : ℕ) (bytes : List ℕ) → length (unpacked size bytes) ≡ length bytes * size
length-unpacked size [] = omega arith
length-unpacked size (b ∷ bytes) = omega (arith, length-append (bits_of size b) (unpacked size bytes), length-bits_of size b, length-unpacked size bytes)

-- where no bit is set all are false
pub none_set : (bits : List Bool) → list_any (λ bit. bit) bits ≡ false → bits ≡ replicate (length bits) false
none_set [] e = refl
none_set (true ∷ bits) e = cc
none_set (false ∷ bits) e = ap (λ rest. false ∷ rest) (none_set bits e)

pub none_set-replicate : (count : ℕ) → list_any (λ bit. bit) (replicate count false) ≡ false
none_set-replicate zero = refl
none_set-replicate (suc count) = none_set-replicate count
