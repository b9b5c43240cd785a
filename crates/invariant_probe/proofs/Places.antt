-- The mirrors of a host up to a local number.
use Rattle.std.proofs.Common.{◌≡◌, ℕ, zero, suc, ◌+◌, ◌-◌, ◌<◌, ◌≤◌, Bool, true, false, not, ◌&&◌, List, [], ◌∷◌, ◌++◌, length, take, get_or, slice_index, refl, sym, ap, ◌∙◌, arith}
use Rattle.std.specs.List.{list_all}
use Rattle.std.proofs.lemmas.List.{take_more, get_or-append_right, take_all, length-append}
use Rattle.std.proofs.lemmas.List.Folds.{list_all-append}
use Rattle.graph_division.specs.Shares.{Share, masters_here, mirrors_here, proxies_here}
use Rattle.proxy_graph.specs.Heads.{vertex_at}
use Rattle.invariant_probe.specs.Probe.{none_of}

-- the last of a list that is looked at
and_end : (b : Bool) → (b && true) ≡ b
and_end true = refl
and_end false = refl

all_more : {X : Type 0} (p : X → Bool) (xs : List X) (i : ℕ) (d : X) → i < length xs → list_all p (take (i + 1) xs) ≡ (list_all p (take i xs) && p (get_or xs i d))
all_more p xs i d within =
    ap (list_all p) (take_more xs i d within) ∙ list_all-append p (take i xs) (get_or xs i d ∷ [])
    ∙ ap (λ b. list_all p (take i xs) && b) (and_end (p (get_or xs i d)))

-- the mirrors of a share below a local number
abbrev pub mirrors_below : Share → ℕ → List ℕ
mirrors_below share lid = take (lid - length (masters_here share)) (mirrors_here share)

-- the vertex of a mirror
pub mirror_at : (share : Share) (lid : ℕ) → length (masters_here share) ≤ lid → vertex_at share lid ≡ slice_index (mirrors_here share) (lid - length (masters_here share))
mirror_at share lid from = get_or-append_right (masters_here share) (mirrors_here share) (length (masters_here share)) lid 0 refl from

-- one mirror more
pub none_more : (kind : Share → ℕ → Bool) (share : Share) (lid : ℕ) → length (masters_here share) ≤ lid → lid < length (proxies_here share)
    → none_of kind share (mirrors_below share (lid + 1)) ≡ (none_of kind share (mirrors_below share lid) && not (kind share (vertex_at share lid)))
none_more kind share lid from below =
    let first = length (masters_here share) in
    let i = lid - first in
    let within : i < length (mirrors_here share) = omega (arith, length-append (masters_here share) (mirrors_here share)) in
    ap (λ n. none_of kind share (take n (mirrors_here share))) (let e : lid + 1 - first ≡ i + 1 = omega arith in e)
    ∙ all_more (λ v. not (kind share v)) (mirrors_here share) i 0 within
    ∙ ap (λ v. none_of kind share (mirrors_below share lid) && not (kind share v)) (sym (mirror_at share lid from))

-- before the first there is none
pub none_first : (kind : Share → ℕ → Bool) (share : Share) (lid : ℕ) → lid ≡ length (masters_here share) → none_of kind share (mirrors_below share lid) ≡ true
none_first kind share lid is = ap (λ n. none_of kind share (take n (mirrors_here share))) (let e : lid - length (masters_here share) ≡ 0 = omega arith in e)

-- after the last there are all
pub none_all : (kind : Share → ℕ → Bool) (share : Share) (lid : ℕ) → lid ≡ length (proxies_here share) → none_of kind share (mirrors_below share lid) ≡ none_of kind share (mirrors_here share)
none_all kind share lid is =
    ap (none_of kind share) (take_all (lid - length (masters_here share)) (mirrors_here share) (omega (arith, length-append (masters_here share) (mirrors_here share))))
