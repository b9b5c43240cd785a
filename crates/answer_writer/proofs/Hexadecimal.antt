-- The hexadecimal digits of bytes, piece by piece.
use Rattle.std.proofs.Common.{◌≡◌, ℕ, ◌+◌, ◌-◌, ◌*◌, List, [], ◌∷◌, ◌++◌, take, drop, length, Result, ◌/◌, ◌%◌, refl, ap, sym, ◌∙◌, arith}
use Rattle.std.specs.List.{slice_index}
use Rattle.std.proofs.lemmas.Grind.{common_steps}
use Rattle.std.proofs.Math.Seq.{take-add}
use Rattle.std.proofs.lemmas.List.{take-append-drop, take_all, length-drop}
use Rattle.hex.specs.Hex.{encode_with, encode_lower, lower_digits}
use Rattle.io_edge.specs.Writing.{SinkState, WroteAll, WroteFront, WroteBy}
use Rattle.io_edge.proofs.Writings.{WroteAll-++, WroteFront-++, WroteFront-more, WroteBy-++}

-- the digits of two pieces are those of the one and then those of the other
encode_with-append : (t xs ys : List ℕ) → encode_with t (xs ++ ys) ≡ encode_with t xs ++ encode_with t ys
unfolding encode_with
encode_with-append t [] ys = refl
encode_with-append t (x ∷ xs) ys = ap (λ rest. slice_index t (x / 16) ∷ (slice_index t (x % 16) ∷ rest)) (encode_with-append t xs ys)

-- the digits of the first bytes, and then those of the next ones
front_and_piece : (at size : ℕ) (bytes : List ℕ) → encode_lower (take (at + size) bytes) ≡ encode_lower (take at bytes) ++ encode_lower (take size (drop at bytes))
front_and_piece at size bytes = ap encode_lower (take-add at size bytes) ∙ encode_with-append lower_digits (take at bytes) (take size (drop at bytes))

-- the digits of the first bytes, and then those of the others
front_and_rest : (at : ℕ) (bytes : List ℕ) → encode_lower (take at bytes) ++ encode_lower (drop at bytes) ≡ encode_lower bytes
front_and_rest at bytes = sym (encode_with-append lower_digits (take at bytes) (drop at bytes)) ∙ ap encode_lower (take-append-drop at bytes)

-- one piece more
next_piece : (number size : ℕ) → (number + 1) * size ≡ number * size + size
next_piece number size = grind (arith, common_steps)

-- the bytes from `at` on, up to the next piece
piece_is : (at size : ℕ) (bytes : List ℕ) → take ((at + size) - at) (drop at bytes) ≡ take size (drop at bytes)
piece_is at size bytes = ap (λ count. take count (drop at bytes)) (omega arith)

-- the first bytes were written, and then the next piece
pub WroteAll-piece : {a b c : SinkState} (number size : ℕ) (bytes : List ℕ) → WroteAll a b (encode_lower (take (number * size) bytes)) → WroteAll b c (encode_lower (take ((number * size + size) - number * size) (drop (number * size) bytes))) → WroteAll a c (encode_lower (take ((number + 1) * size) bytes))
WroteAll-piece number size bytes first here =
    let next : (number + 1) * size ≡ number * size + size = next_piece number size in
    rw (next, front_and_piece (number * size) size bytes) (WroteAll-++ first (rw (← piece_is (number * size) size bytes) here))

-- the first bytes were written, and then a front of the next piece, so a front of all
pub WroteFront-piece : {a b c : SinkState} (number size : ℕ) (bytes : List ℕ) → WroteAll a b (encode_lower (take (number * size) bytes)) → WroteFront b c (encode_lower (take ((number * size + size) - number * size) (drop (number * size) bytes))) → WroteFront a c (encode_lower bytes)
WroteFront-piece number size bytes first here =
    rw (← front_and_rest (number * size + size) bytes, front_and_piece (number * size) size bytes) (WroteFront-more (encode_lower (drop (number * size + size) bytes)) (WroteFront-++ first (rw (← piece_is (number * size) size bytes) here)))

-- the bytes from `at` on, up to the end
rest_is : (at : ℕ) (bytes : List ℕ) → take (length bytes - at) (drop at bytes) ≡ drop at bytes
rest_is at bytes = take_all (length bytes - at) (drop at bytes) (let e = length-drop at bytes in omega (arith, e))

-- the first bytes were written, and the others by the last call, so all by both
pub WroteBy-rest : {T E : Type 0} {r : Result T E} {a b c : SinkState} (at : ℕ) (bytes : List ℕ) → WroteAll a b (encode_lower (take at bytes)) → WroteBy r b c (encode_lower (take (length bytes - at) (drop at bytes))) → WroteBy r a c (encode_lower bytes)
WroteBy-rest at bytes first last = rw (← front_and_rest at bytes) (WroteBy-++ first (rw (← rest_is at bytes) last))
