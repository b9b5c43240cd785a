-- A text of numbers that is written number by number.
use Rattle.std.proofs.Common.{◌≡◌, ℕ, ◌+◌, ◌<◌, List, [], ◌∷◌, ◌++◌, length, take, drop, get_or, ap, sym, ◌∙◌, append_assoc, append-nil}
use Rattle.std.proofs.lemmas.List.{take_more, drop_more, take-append-drop}
use Rattle.std.proofs.lemmas.Grind.{flat_map-append}
use Rattle.list_laws.specs.LittleEndian.{le_bytes, le_text}
use Rattle.io_edge.specs.Writing.{SinkState, WroteAll, WroteFront}
use Rattle.io_edge.proofs.Writings.{WroteAll-++, WroteFront-++, WroteFront-more}

-- one more number
pub WroteAll-number : {a b c : SinkState} (size : ℕ) (numbers : List ℕ) (i number : ℕ) (bytes : List ℕ) → i < length numbers → number ≡ get_or numbers i 0 → bytes ≡ le_bytes size number
    → WroteAll a b (le_text size (take i numbers)) → WroteAll b c bytes → WroteAll a c (le_text size (take (i + 1) numbers))
WroteAll-number size numbers i number bytes below same coded first here =
    let piece : bytes ≡ le_bytes size (get_or numbers i 0) = coded ∙ ap (le_bytes size) same in
    let more : le_text size (take (i + 1) numbers) ≡ le_text size (take i numbers) ++ bytes =
    ap (le_text size) (take_more numbers i 0 below) ∙ flat_map-append (le_bytes size) (take i numbers) (get_or numbers i 0 ∷ []) ∙ ap (λ (l : List ℕ). le_text size (take i numbers) ++ l) (append-nil (le_bytes size (get_or numbers i 0)) ∙ sym piece) in
    rw more (WroteAll-++ first here)

-- a front of one number
pub WroteFront-number : {a b c : SinkState} (size : ℕ) (numbers : List ℕ) (i number : ℕ) (bytes : List ℕ) → i < length numbers → number ≡ get_or numbers i 0 → bytes ≡ le_bytes size number
    → WroteAll a b (le_text size (take i numbers)) → WroteFront b c bytes → WroteFront a c (le_text size numbers)
WroteFront-number size numbers i number bytes below same coded first here =
    let piece : bytes ≡ le_bytes size (get_or numbers i 0) = coded ∙ ap (le_bytes size) same in
    let parted : take i numbers ++ (get_or numbers i 0 ∷ drop (i + 1) numbers) ≡ numbers = rw (← drop_more numbers i 0 below) (take-append-drop i numbers) in
    let whole : (le_text size (take i numbers) ++ bytes) ++ le_text size (drop (i + 1) numbers) ≡ le_text size numbers =
    ap (λ (l : List ℕ). (le_text size (take i numbers) ++ l) ++ le_text size (drop (i + 1) numbers)) piece
    ∙ append_assoc (le_text size (take i numbers)) (le_bytes size (get_or numbers i 0)) (le_text size (drop (i + 1) numbers))
    ∙ sym (flat_map-append (le_bytes size) (take i numbers) (get_or numbers i 0 ∷ drop (i + 1) numbers)) ∙ ap (le_text size) parted in
    rw (← whole) (WroteFront-more (le_text size (drop (i + 1) numbers)) (WroteFront-++ first here))
