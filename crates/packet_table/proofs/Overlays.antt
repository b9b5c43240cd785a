-- Bytes that are written over a list, and over the parts of a block.
use Rattle.std.specs.Prelude.{◌≡◌, ℕ, ◌+◌, ◌-◌, ◌≤◌, ◌<◌, List, [], ◌∷◌, ◌++◌, length, sum, take, drop, slice_set, refl}
use Rattle.std.specs.List.{slice_index_or}
use Rattle.std.proofs.Common.{arith, suc, zero, sym, ap, ◌∙◌, length-drop, length-append, append-nil}
use Rattle.std.proofs.lemmas.List.{length-take-le, drop_all, take_all}
use Rattle.std.proofs.Math.Seq.{take-append-add}
use Rattle.packet_table.specs.Table.{overlaid, all_overlaid}
use Rattle.packet_table.specs.Block.{cut, start_of}
use Rattle.packet_table.proofs.Cuts.{sum-cons, start_of-suc, drop_first}

-- ---- over one list

-- nothing over an empty list
overlaid-nil : (bytes : List ℕ) → overlaid bytes [] ≡ []
overlaid-nil [] = refl
overlaid-nil (byte ∷ bytes) = refl

-- the bytes, and behind them what they leave of the list, as far as the list reaches
pub overlaid-is : (bytes list : List ℕ) → take (length list) (bytes ++ drop (length bytes) list) ≡ overlaid bytes list
overlaid-is [] list = take_all (length list) list (omega arith)
overlaid-is (byte ∷ bytes) [] = refl
overlaid-is (byte ∷ bytes) (x ∷ list) = ap (λ l. byte ∷ l) (overlaid-is bytes list)

-- as many bytes as the list has take its place
pub overlaid_all : (bytes list : List ℕ) → length bytes ≡ length list → overlaid bytes list ≡ bytes
overlaid_all [] [] h = refl
overlaid_all [] (x ∷ list) h = absurd (omega arith)
overlaid_all (byte ∷ bytes) [] h = absurd (omega arith)
overlaid_all (byte ∷ bytes) (x ∷ list) h = ap (λ l. byte ∷ l) (overlaid_all bytes list (omega arith))

take-overlaid : (n : ℕ) (bytes list : List ℕ) → take n (overlaid bytes list) ≡ overlaid bytes (take n list)
take-overlaid zero bytes list = sym (overlaid-nil bytes)
take-overlaid (suc n) [] list = refl
take-overlaid (suc n) (byte ∷ bytes) [] = refl
take-overlaid (suc n) (byte ∷ bytes) (x ∷ list) = ap (λ l. byte ∷ l) (take-overlaid n bytes list)

drop-overlaid : (n : ℕ) (bytes list : List ℕ) → drop n (overlaid bytes list) ≡ overlaid (drop n bytes) (drop n list)
drop-overlaid zero bytes list = refl
drop-overlaid (suc n) [] list = refl
drop-overlaid (suc n) (byte ∷ bytes) [] = sym (overlaid-nil (drop n bytes))
drop-overlaid (suc n) (byte ∷ bytes) (x ∷ list) = drop-overlaid n bytes list

-- ---- over a list from a place on

-- the list with bytes over it from a place on
abbrev pub overlaid_from : ℕ → List ℕ → List ℕ → List ℕ
overlaid_from zero bytes list = overlaid bytes list
overlaid_from (suc start) bytes [] = []
overlaid_from (suc start) bytes (x ∷ list) = x ∷ overlaid_from start bytes list

overlaid_from-is : (start : ℕ) (bytes list : List ℕ) → take start list ++ overlaid bytes (drop start list) ≡ overlaid_from start bytes list
overlaid_from-is zero bytes list = refl
overlaid_from-is (suc start) bytes [] = overlaid-nil bytes
overlaid_from-is (suc start) bytes (x ∷ list) = ap (λ l. x ∷ l) (overlaid_from-is start bytes list)

overlaid_from-nil : (start : ℕ) (bytes : List ℕ) → overlaid_from start bytes [] ≡ []
overlaid_from-nil zero bytes = overlaid-nil bytes
overlaid_from-nil (suc start) bytes = refl

take-overlaid_from : (n start : ℕ) (bytes list : List ℕ) → n ≤ start → take n (overlaid_from start bytes list) ≡ take n list
take-overlaid_from zero start bytes list h = refl
take-overlaid_from (suc n) zero bytes list h = absurd (omega arith)
take-overlaid_from (suc n) (suc start) bytes [] h = refl
take-overlaid_from (suc n) (suc start) bytes (x ∷ list) h = ap (λ l. x ∷ l) (take-overlaid_from n start bytes list (omega arith))

drop-overlaid_from : (n start : ℕ) (bytes list : List ℕ) → n ≤ start → drop n (overlaid_from start bytes list) ≡ overlaid_from (start - n) bytes (drop n list)
drop-overlaid_from zero start bytes list h =
    let e : start ≡ start - 0 = omega arith in ap (λ k. overlaid_from k bytes list) e
drop-overlaid_from (suc n) zero bytes list h = absurd (omega arith)
drop-overlaid_from (suc n) (suc start) bytes [] h = sym (overlaid_from-nil (suc start - suc n) bytes)
drop-overlaid_from (suc n) (suc start) bytes (x ∷ list) h =
    let e : start - n ≡ suc start - suc n = omega arith in
    drop-overlaid_from n start bytes list (omega arith) ∙ ap (λ k. overlaid_from k bytes (drop n list)) e

-- what a vector ends as where bytes were written from a place on
pub overlaid_from-written : (start : ℕ) (bytes list : List ℕ) → start ≤ length list
    → let ys = take start list ++ (bytes ++ drop (length bytes) (drop start list)) in take (length list) (ys ++ drop (length ys) list) ≡ overlaid_from start bytes list
overlaid_from-written start bytes list h =
    let front = take start list in
    let back = drop start list in
    let rest = bytes ++ drop (length bytes) back in
    let ys = front ++ rest in
    let at : length front ≡ start = length-take-le start list h in
    let many : length list ≤ length ys = omega (arith, length-append front rest, length-append bytes (drop (length bytes) back), length-drop (length bytes) back, length-drop start list) in
    let total : length list ≡ length front + length back = omega (arith, length-drop start list) in
    ap (λ l. take (length list) (ys ++ l)) (drop_all (length ys) list many)
    ∙ ap (λ l. take (length list) l) (append-nil ys)
    ∙ ap (λ n. take n ys) total
    ∙ take-append-add front rest (length back)
    ∙ ap (λ l. front ++ l) (overlaid-is bytes back)
    ∙ overlaid_from-is start bytes list

-- ---- over the parts of a block

-- over all parts
cut-overlaid : (rooms bytes block : List ℕ) → length block ≡ sum rooms → cut rooms (overlaid bytes block) ≡ all_overlaid bytes (cut rooms block)
cut-overlaid [] bytes block h = refl
cut-overlaid (room ∷ rooms) bytes block h =
    let fits : room ≤ length block = omega (arith, sum-cons room rooms) in
    let front = overlaid bytes (take room block) in
    ap (λ l. l ∷ cut rooms (drop room (overlaid bytes block))) (take-overlaid room bytes block)
    ∙ ap (λ l. front ∷ cut rooms l) (drop-overlaid room bytes block)
    ∙ ap (λ l. front ∷ l) (cut-overlaid rooms (drop room bytes) (drop room block) (drop_first room rooms block h))
    ∙ ap (λ n. front ∷ all_overlaid (drop n bytes) (cut rooms (drop room block))) (sym (length-take-le room block fits))

-- over the parts from one on
pub cut-overlaid_from : (rooms : List ℕ) (id : ℕ) (bytes block : List ℕ) → id < length rooms → length block ≡ sum rooms → cut rooms (overlaid_from (start_of rooms id) bytes block) ≡ take id (cut rooms block) ++ all_overlaid bytes (drop id (cut rooms block))
cut-overlaid_from [] id bytes block h filled = absurd (omega arith)
cut-overlaid_from (room ∷ rooms) zero bytes block h filled = cut-overlaid (room ∷ rooms) bytes block filled
cut-overlaid_from (room ∷ rooms) (suc id) bytes block h filled =
    let start = start_of (room ∷ rooms) (suc id) in
    let later : start - room ≡ start_of rooms id = omega (arith, start_of-suc room rooms id) in
    let behind : room ≤ start = omega (arith, start_of-suc room rooms id) in
    ap (λ l. l ∷ cut rooms (drop room (overlaid_from start bytes block))) (take-overlaid_from room start bytes block behind)
    ∙ ap (λ l. take room block ∷ cut rooms l) (drop-overlaid_from room start bytes block behind)
    ∙ ap (λ n. take room block ∷ cut rooms (overlaid_from n bytes (drop room block))) later
    ∙ ap (λ l. take room block ∷ l) (cut-overlaid_from rooms id bytes (drop room block) (omega arith) (drop_first room rooms block filled))

-- nothing over all parts
all_overlaid-nil : (parts : List (List ℕ)) → all_overlaid [] parts ≡ parts
all_overlaid-nil [] = refl
all_overlaid-nil (part ∷ parts) =
    ap (λ l. part ∷ all_overlaid l parts) (drop_all (length part) [] (omega arith)) ∙ ap (λ l. part ∷ l) (all_overlaid-nil parts)

-- as many bytes as one part has take its place and leave the others
pub all_overlaid_one : (parts : List (List ℕ)) (id : ℕ) (bytes : List ℕ) → id < length parts → length bytes ≡ length (slice_index_or parts id []) → take id parts ++ all_overlaid bytes (drop id parts) ≡ slice_set parts id bytes
all_overlaid_one [] id bytes h fits = absurd (omega arith)
all_overlaid_one (part ∷ parts) zero bytes h fits =
    ap (λ l. l ∷ all_overlaid (drop (length part) bytes) parts) (overlaid_all bytes part fits)
    ∙ ap (λ l. bytes ∷ all_overlaid l parts) (drop_all (length part) bytes (omega arith))
    ∙ ap (λ l. bytes ∷ l) (all_overlaid-nil parts)
all_overlaid_one (part ∷ parts) (suc id) bytes h fits = ap (λ l. part ∷ l) (all_overlaid_one parts id bytes (omega arith) fits)
