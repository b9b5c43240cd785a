-- Texts of the elements of a list, written one after another.
use Rattle.std.proofs.Common.{◌≡◌, ◌∙◌, ℕ, ◌+◌, ◌<◌, List, [], ◌∷◌, ◌++◌, length, take, drop, get_or, Result, ap, sym, subst, append-nil}
use Rattle.std.specs.List.{flat_map}
use Rattle.std.proofs.lemmas.List.{take_more, take-append-drop}
use Rattle.std.proofs.lemmas.Grind.{flat_map-append}
use Rattle.io_edge.specs.Writing.{SinkState, WroteAll, WroteFront, WroteBy}
use Rattle.io_edge.proofs.Writings.{WroteAll-++, WroteFront-++, WroteFront-more}

-- what is written, by another name
pub all_as : {a b : SinkState} {s t : List ℕ} → s ≡ t → WroteAll a b s → WroteAll a b t
all_as {a} {b} same wrote = subst (λ text. WroteAll a b text) same wrote

pub front_as : {a b : SinkState} {s t : List ℕ} → s ≡ t → WroteFront a b s → WroteFront a b t
front_as {a} {b} same wrote = subst (λ text. WroteFront a b text) same wrote

pub by_as : {T E : Type 0} {r : Result T E} {a b : SinkState} {s t : List ℕ} → s ≡ t → WroteBy r a b s → WroteBy r a b t
by_as {r} {a} {b} same wrote = subst (λ text. WroteBy r a b text) same wrote

module _ {X : Type 0} (text : X → List ℕ) where
  -- the texts so far, and one more
  texts_more : (xs : List X) (i : ℕ) (x d : X) → i < length xs → x ≡ get_or xs i d → flat_map text (take (i + 1) xs) ≡ flat_map text (take i xs) ++ text x
  texts_more xs i x d within is =
      ap (flat_map text) (take_more xs i d within)
      ∙ flat_map-append text (take i xs) (get_or xs i d ∷ [])
      ∙ ap (λ end. flat_map text (take i xs) ++ end) (append-nil (text (get_or xs i d)))
      ∙ ap (λ y. flat_map text (take i xs) ++ text y) (sym is)

  -- the texts so far, and those after them
  texts_parted : (xs : List X) (i : ℕ) → flat_map text xs ≡ flat_map text (take i xs) ++ flat_map text (drop i xs)
  texts_parted xs i = ap (flat_map text) (sym (take-append-drop i xs)) ∙ flat_map-append text (take i xs) (drop i xs)

  -- the texts so far are written, and then one more
  pub WroteAll-texts : {a b c : SinkState} (xs : List X) (i : ℕ) (x d : X) → i < length xs → x ≡ get_or xs i d →
      WroteAll a b (flat_map text (take i xs)) → WroteAll b c (text x) → WroteAll a c (flat_map text (take (i + 1) xs))
  WroteAll-texts xs i x d within is first here = rw (texts_more xs i x d within is) (WroteAll-++ first here)

  -- the texts so far are written, and then a front of one more, which is a front of all
  pub WroteFront-texts : {a b c : SinkState} (xs : List X) (i : ℕ) (x d : X) → i < length xs → x ≡ get_or xs i d →
      WroteAll a b (flat_map text (take i xs)) → WroteFront b c (text x) → WroteFront a c (flat_map text xs)
  WroteFront-texts {a} {b} {c} xs i x d within is first front =
      let more : WroteFront a c (flat_map text (take (i + 1) xs)) = rw (texts_more xs i x d within is) (WroteFront-++ first front) in
      rw (texts_parted xs (i + 1)) (WroteFront-more (flat_map text (drop (i + 1) xs)) more)
