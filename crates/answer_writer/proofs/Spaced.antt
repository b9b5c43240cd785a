-- A list of spaced numbers, parted at one of them.
use Rattle.std.proofs.Common.{◌≡◌, ℕ, ◌+◌, ◌<◌, List, [], ◌∷◌, ◌++◌, length, take, drop, get_or, ap, sym, ◌∙◌, append_assoc, append-nil}
use Rattle.std.proofs.lemmas.List.{take-append-drop, drop_more, take_more}
use Rattle.std.proofs.lemmas.Grind.{flat_map-append}
use Rattle.io_edge.specs.Writing.{SinkState, WroteAll, WroteFront}
use Rattle.io_edge.proofs.Writings.{WroteAll-++, WroteFront-++, WroteFront-more}
use Rattle.answer_writer.specs.Lines.{spaced_number, spaced_numbers}

-- the numbers before the one at i, that one, and those after it
pub spaced_numbers-at : (numbers : List ℕ) (i : ℕ) → i < length numbers → (spaced_numbers (take i numbers) ++ spaced_number (get_or numbers i 0)) ++ spaced_numbers (drop (i + 1) numbers) ≡ spaced_numbers numbers
spaced_numbers-at numbers i below =
    let parted : take i numbers ++ (get_or numbers i 0 ∷ drop (i + 1) numbers) ≡ numbers = rw (← drop_more numbers i 0 below) (take-append-drop i numbers) in
    append_assoc (spaced_numbers (take i numbers)) (spaced_number (get_or numbers i 0)) (spaced_numbers (drop (i + 1) numbers)) ∙ sym (flat_map-append spaced_number (take i numbers) (get_or numbers i 0 ∷ drop (i + 1) numbers)) ∙ ap spaced_numbers parted

-- the numbers before the one at i, and then that one
pub WroteAll-spaced : {a b c : SinkState} (numbers : List ℕ) (i : ℕ) → i < length numbers → WroteAll a b (spaced_numbers (take i numbers)) → WroteAll b c (spaced_number (get_or numbers i 0)) → WroteAll a c (spaced_numbers (take (i + 1) numbers))
WroteAll-spaced numbers i below first here =
    let more = take_more numbers i 0 below in
    rw (more, flat_map-append spaced_number (take i numbers) (get_or numbers i 0 ∷ [])) (WroteAll-++ first (rw append-nil here))

-- the numbers before the one at i, and then a front of that one, are a front of all of them
pub WroteFront-spaced : {a b c : SinkState} (numbers : List ℕ) (i : ℕ) → i < length numbers → WroteAll a b (spaced_numbers (take i numbers)) → WroteFront b c (spaced_number (get_or numbers i 0)) → WroteFront a c (spaced_numbers numbers)
WroteFront-spaced numbers i below first here =
    rw (← spaced_numbers-at numbers i below) (WroteFront-more (spaced_numbers (drop (i + 1) numbers)) (WroteFront-++ first here))
