-- Numbers and their bytes, and a text cut into pieces and joined again.
use Rattle.std.proofs.Common.{◌≡◌, ◌<◌, ◌≤◌, ℕ, zero, suc, ◌+◌, ◌*◌, ◌/◌, ◌%◌, ◌^◌, List, [], ◌∷◌, ◌++◌, length, take, drop, map, refl, ap, arith, append_assoc}
use Rattle.std.proofs.lemmas.Grind.{common_steps}
use Rattle.std.proofs.Math.Nat.{pow-suc}
use Rattle.std.proofs.lemmas.Nat.{div_below}
use Rattle.std.proofs.lemmas.List.{take_at, drop_at, length-append, length-take, length-drop, take-append-drop, take-take, drop-take}
use Rattle.std.proofs.lemmas.List.Elements.{All-head, All-tail, All-take, All-drop}
use Rattle.std.specs.List.{flat_map, All}
use Rattle.list_laws.specs.LittleEndian.{AreBytes, le_bytes, le_number, pieces}

pub length-le_bytes : (size x : ℕ) → length (le_bytes size x) ≡ size
unfolding le_bytes
length-le_bytes zero x = refl
length-le_bytes (suc size) x = ap suc (length-le_bytes size (x / 256))

-- a number is read back from its bytes
pub le_number-le_bytes : (size x : ℕ) → x < 256 ^ size → le_number (le_bytes size x) ≡ x
unfolding le_bytes le_number
le_number-le_bytes zero x h = omega arith
le_number-le_bytes (suc size) x h =
    let small : x < 256 ^ size * 256 = rw pow-suc at h in
    let rest : le_number (le_bytes size (x / 256)) ≡ x / 256 = le_number-le_bytes size (x / 256) (div_below x 256 (256 ^ size) (omega arith) small) in
    rw rest (omega arith)

-- bytes are written again from their number
pub le_bytes-le_number : (size : ℕ) (bytes : List ℕ) → length bytes ≡ size → AreBytes bytes → le_bytes size (le_number bytes) ≡ bytes
unfolding le_bytes le_number
le_bytes-le_number zero [] e h = refl
le_bytes-le_number zero (b ∷ bytes) e h = absurd (omega arith)
le_bytes-le_number (suc size) [] e h = absurd (omega arith)
le_bytes-le_number (suc size) (b ∷ bytes) e h =
    let low : b < 256 = All-head (λ b. b < 256) b bytes h in
    let first : (b + 256 * le_number bytes) % 256 ≡ b = omega arith in
    let others : (b + 256 * le_number bytes) / 256 ≡ le_number bytes = omega arith in
    rw (first, others) (ap (λ rest. b ∷ rest) (le_bytes-le_number size bytes (omega arith) (All-tail (λ b. b < 256) b bytes h)))

pub length-pieces : (size count : ℕ) (text : List ℕ) → length (pieces size count text) ≡ count
length-pieces size zero text = refl
length-pieces size (suc count) text = ap suc (length-pieces size count (drop size text))

-- what is written in pieces of one size has so many bytes
pub length-in_pieces : {X : Type 0} (size : ℕ) (write : X → List ℕ) (xs : List X) → All (λ x. length (write x) ≡ size) xs → length (flat_map write xs) ≡ length xs * size
length-in_pieces size write [] h = omega arith
length-in_pieces size write (x ∷ xs) h =
    let here : length (write x) ≡ size = All-head (λ x. length (write x) ≡ size) x xs h in
    let rest : length (flat_map write xs) ≡ length xs * size = length-in_pieces size write xs (All-tail (λ x. length (write x) ≡ size) x xs h) in
    omega (arith, length-append (write x) (flat_map write xs))

-- what was written in pieces of one size is cut into these pieces, whatever follows
pub pieces-in_pieces : {X : Type 0} (size : ℕ) (write : X → List ℕ) (xs : List X) (more : List ℕ) → All (λ x. length (write x) ≡ size) xs → pieces size (length xs) (flat_map write xs ++ more) ≡ map write xs
pieces-in_pieces size write [] more h = refl
pieces-in_pieces size write (x ∷ xs) more h =
    let here : length (write x) ≡ size = All-head (λ x. length (write x) ≡ size) x xs h in
    let rest : pieces size (length xs) (flat_map write xs ++ more) ≡ map write xs = pieces-in_pieces size write xs more (All-tail (λ x. length (write x) ≡ size) x xs h) in
    rw (append_assoc (write x) (flat_map write xs) more, take_at (write x) (flat_map write xs ++ more) size here, drop_at (write x) (flat_map write xs ++ more) size here, rest) refl

-- the front of a text in two parts
pub take_two : {A : Type 0} (n m : ℕ) (xs : List A) → take n xs ++ take m (drop n xs) ≡ take (n + m) xs
take_two n m xs =
    let front : take n (take (n + m) xs) ≡ take n xs = take-take n (n + m) xs (omega arith) in
    let back : drop n (take (n + m) xs) ≡ take m (drop n xs) = drop-take n m xs in
    rw (← front, ← back) (take-append-drop n (take (n + m) xs))

-- the pieces of a text, read and written again, are the front of the text
pub rewritten : {X : Type 0} (size : ℕ) (write : X → List ℕ) (read : List ℕ → X) → ((piece : List ℕ) → length piece ≡ size → AreBytes piece → write (read piece) ≡ piece)
    → (count : ℕ) (text : List ℕ) → AreBytes text → count * size ≤ length text → flat_map write (map read (pieces size count text)) ≡ take (count * size) text
rewritten size write read back zero text h l = grind (arith, common_steps)
rewritten size write read back (suc count) text h l =
    let here : write (read (take size text)) ≡ take size text = back (take size text) (omega (arith, length-take size text)) (All-take (λ b. b < 256) size text h) in
    let rest : flat_map write (map read (pieces size count (drop size text))) ≡ take (count * size) (drop size text)
    = rewritten size write read back count (drop size text) (All-drop (λ b. b < 256) size text h) (omega (arith, length-drop size text)) in
    let sum : suc count * size ≡ size + count * size = omega arith in
    rw (here, rest, sum) (take_two size (count * size) text)

-- the lowest bytes of a number
pub take-le_bytes : (few size x : ℕ) → few ≤ size → take few (le_bytes size x) ≡ le_bytes few x
unfolding le_bytes
take-le_bytes zero size x h = refl
take-le_bytes (suc few) zero x h = absurd (omega arith)
take-le_bytes (suc few) (suc size) x h = ap (λ rest. x % 256 ∷ rest) (take-le_bytes few size (x / 256) (omega arith))
