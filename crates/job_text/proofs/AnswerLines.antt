-- Lines written one after another.
use Rattle.std.proofs.Common.{◌≡◌, ◌∙◌, ℕ, ◌+◌, ◌<◌, List, [], ◌∷◌, ◌++◌, length, take, drop, get_or, ap, sym, arith, append_assoc}
use Rattle.std.proofs.lemmas.List.{take_more, take-append-drop, length-take-le, append-nil}
use Rattle.io_edge.specs.Writing.{SinkState, WroteAll, WroteFront}
use Rattle.io_edge.proofs.Writings.{WroteFront-++, WroteFront-more}
use Rattle.job_text.specs.Numbered.{numbered}

module _ {X : Type 0} (line : ℕ → X → List ℕ) where
  -- the lines of two parts
  pub numbered-append : (v : ℕ) (xs ys : List X) → numbered line v (xs ++ ys) ≡ numbered line v xs ++ numbered line (v + length xs) ys
  numbered-append v [] ys = ap (λ n. numbered line n ys) (omega arith)
  numbered-append v (x ∷ xs) ys =
      ap (λ rest. line v x ++ rest) (numbered-append (v + 1) xs ys)
      ∙ sym (append_assoc (line v x) (numbered line (v + 1) xs) (numbered line (v + 1 + length xs) ys))
      ∙ ap (λ n. numbered line v (x ∷ xs) ++ numbered line n ys) (omega arith)

  -- one line more
  pub numbered-take_more : (xs : List X) (i : ℕ) (x d : X) → i < length xs → x ≡ get_or xs i d →
      numbered line 0 (take (i + 1) xs) ≡ numbered line 0 (take i xs) ++ line i x
  numbered-take_more xs i x d inside is =
      let short : length (take i xs) ≡ i = length-take-le i xs (omega arith) in
      let more : take (i + 1) xs ≡ take i xs ++ x ∷ [] = take_more xs i d inside ∙ ap (λ y. take i xs ++ y ∷ []) (sym is) in
      ap (numbered line 0) more ∙ numbered-append 0 (take i xs) (x ∷ [])
      ∙ ap (λ n. numbered line 0 (take i xs) ++ numbered line n (x ∷ [])) (let e : 0 + length (take i xs) ≡ i = omega (arith, short) in e)
      ∙ ap (λ end. numbered line 0 (take i xs) ++ end) (append-nil (line i x))

  -- the lines so far, the next one, and those after it
  pub numbered-split : (xs : List X) (i : ℕ) → numbered line 0 xs ≡ numbered line 0 (take i xs) ++ numbered line (0 + length (take i xs)) (drop i xs)
  numbered-split xs i = ap (numbered line 0) (sym (take-append-drop i xs)) ∙ numbered-append 0 (take i xs) (drop i xs)

  -- the lines so far, and then a front of the next one
  pub WroteFront-lines : {a b c : SinkState} (xs : List X) (i : ℕ) (x d : X) → i < length xs → x ≡ get_or xs i d →
      WroteAll a b (numbered line 0 (take i xs)) → WroteFront b c (line i x) → WroteFront a c (numbered line 0 xs)
  WroteFront-lines {a} {b} {c} xs i x d inside is first front =
      let so_far : WroteFront a c (numbered line 0 (take i xs) ++ line i x) = WroteFront-++ first front in
      let more : WroteFront a c (numbered line 0 (take (i + 1) xs)) = rw (numbered-take_more xs i x d inside is) so_far in
      rw (numbered-split xs (i + 1)) (WroteFront-more (numbered line (0 + length (take (i + 1) xs)) (drop (i + 1) xs)) more)
