-- Numbers of a text, turn by turn.
use Rattle.std.proofs.Common.{◌≡◌, ◌<◌, ℕ, zero, suc, ◌+◌, ◌*◌, List, length, get_or, take, drop, sym, ap, ◌∙◌, arith}
use Rattle.std.proofs.lemmas.List.{drop-drop, length-map}
use Rattle.list_laws.specs.LittleEndian.{le_number, pieces, numbers}
use Rattle.list_laws.proofs.LittleEndian.{length-pieces}

-- the number at a turn of a text
pub number_at_turn : (size count : ℕ) (text : List ℕ) (i : ℕ) → i < count → get_or (numbers size count text) i 0 ≡ le_number (take size (drop (i * size) text))
number_at_turn size zero text i l = absurd (omega arith)
number_at_turn size (suc count) text zero l = let none : zero * size ≡ 0 = omega arith in sym (ap (λ n. le_number (take size (drop n text))) none)
number_at_turn size (suc count) text (suc i) l =
    let place : suc i * size ≡ size + i * size = omega arith in
    number_at_turn size count (drop size text) i (omega arith)
    ∙ ap (λ rest. le_number (take size rest)) (drop-drop (i * size) size text ∙ sym (ap (λ n. drop n text) place))

-- a number that was read is that of its turn
pub read_in_turn : (size count : ℕ) (text : List ℕ) (i x : ℕ) → i < count → x ≡ le_number (take size (drop (i * size) text)) → (i < length (numbers size count text)) × (x ≡ get_or (numbers size count text) i 0)
read_in_turn size count text i x l e =
    (omega (arith, length-map (pieces size count text) le_number, length-pieces size count text), e ∙ sym (number_at_turn size count text i l))
