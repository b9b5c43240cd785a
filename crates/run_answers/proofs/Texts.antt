-- Texts of the elements of a list, written one after another.
use Rattle.std.proofs.Common.{◌≡◌, ◌∙◌, ℕ, ◌+◌, List, [], ◌∷◌, ◌++◌, take, drop, ap, sym, subst, append-nil}
use Rattle.std.specs.List.{flat_map}
use Rattle.std.proofs.lemmas.List.{take-append-drop}
use Rattle.std.proofs.lemmas.Grind.{flat_map-append}
use Rattle.io_edge.specs.Writing.{SinkState, WroteAll, WroteFront}
use Rattle.io_edge.proofs.Writings.{WroteAll-++, WroteFront-++, WroteFront-more}

module _ {X : Type 0} (text : X → List ℕ) where
  -- the texts of what is parted are those of its parts
  pub all_of_parts : {a b c : SinkState} (all front rest : List X) → all ≡ front ++ rest → WroteAll a b (flat_map text front) → WroteAll b c (flat_map text rest) → WroteAll a c (flat_map text all)
  all_of_parts {a} {b} {c} all front rest parted first second = rw (parted, flat_map-append text front rest) (WroteAll-++ first second)

  -- the first are written, and a front of the next
  pub front_of_parts : {a b c : SinkState} (all front here rest : List X) → all ≡ (front ++ here) ++ rest → WroteAll a b (flat_map text front) → WroteFront b c (flat_map text here) → WroteFront a c (flat_map text all)
  front_of_parts {a} {b} {c} all front here rest parted first second =
      rw (parted, flat_map-append text (front ++ here) rest, flat_map-append text front here)
      (WroteFront-more (flat_map text rest) (WroteFront-++ first second))

  -- the texts of the elements so far, and that of one more
  pub all_and_one : {a b c : SinkState} (xs : List X) (i : ℕ) (x : X) (line : List ℕ) → take (i + 1) xs ≡ take i xs ++ x ∷ [] → line ≡ text x
      → WroteAll a b (flat_map text (take i xs)) → WroteAll b c line → WroteAll a c (flat_map text (take (i + 1) xs))
  all_and_one {a} {b} {c} xs i x line parted is first second =
      all_of_parts (take (i + 1) xs) (take i xs) (x ∷ []) parted first (subst (λ written. WroteAll b c written) (is ∙ sym (append-nil (text x))) second)

  -- or a front of it, which is a front of all
  pub front_and_one : {a b c : SinkState} (xs : List X) (i : ℕ) (x : X) (line : List ℕ) → take (i + 1) xs ≡ take i xs ++ x ∷ [] → line ≡ text x
      → WroteAll a b (flat_map text (take i xs)) → WroteFront b c line → WroteFront a c (flat_map text xs)
  front_and_one {a} {b} {c} xs i x line parted is first second =
      front_of_parts xs (take i xs) (x ∷ []) (drop (i + 1) xs) (sym (take-append-drop (i + 1) xs) ∙ ap (λ front. front ++ drop (i + 1) xs) parted) first
      (subst (λ written. WroteFront b c written) (is ∙ sym (append-nil (text x))) second)
