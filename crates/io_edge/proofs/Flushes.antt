-- What the sink below a page holds once a text was written to the page.
use Rattle.std.proofs.Common.{◌≡◌, ℕ, ◌≤◌, List, [], ◌∷◌, ◌++◌, length, take, Option, Some, None, Result, Ok, Err, OnOk, OnErr, refl, sym, ap, ◌∙◌, arith, append_assoc, length-append, length-take}
use Rattle.std.proofs.lemmas.List.{take-take, append_cancel_left, append-nil}
use Rattle.std.proofs.Math.Seq.{take-append_seam}
use Rattle.std.specs.Io.KnownBytes.{append_known}
use Rattle.io_edge.specs.declared.sink.Sink.{Ghosts}
use Rattle.io_edge.specs.declared.paged_sink.PagedSink.{PagedSink}
use Rattle.io_edge.specs.Bytes.{Gains, GainsPrefix}
use Rattle.io_edge.specs.Writing.{WroteAll, WroteFront, WroteBy, state_of}
use Rattle.io_edge.specs.Paged.{waiting, paged_held, paged_state}
use Rattle.io_edge.proofs.Moves.{Gains-[], GainsPrefix-none}
use Rattle.io_edge.proofs.Writings.{WroteFront-++}

-- bytes that were gained behind a page that was empty, and is empty again
Gains-below : (a b held : Option (List ℕ)) (before after text : List ℕ) → before ≡ [] → Gains (append_known a before) held text → after ≡ [] → append_known b after ≡ held → Gains a b text
Gains-below a b held [] [] text none gains empty kept =
    let start = Gains-[] a a refl in
    let end = Gains-[] b b refl in
    cc
Gains-below a b held [] (byte ∷ more) text none gains empty kept = let no : ⊥ = cc in absurd no
Gains-below a b held (byte ∷ more) after text none gains empty kept = let no : ⊥ = cc in absurd no

-- a list that a front of a text begins with is a front of the text
front-of : (more waits text : List ℕ) (n : ℕ) → n ≤ length text → more ++ waits ≡ take n text → (length more ≤ length text) × (take (length more) text ≡ more)
front-of more waits text n within same =
    let size = ap (λ (xs : List ℕ). length xs) same in
    let short : length more ≤ n = omega (arith, size, length-append more waits, length-take n text) in (
      omega arith,
      sym (take-take (length more) n text short) ∙ ap (λ (xs : List ℕ). take (length more) xs) (sym same) ∙ take-append_seam more waits,
    )

-- what arrived of bytes that were told
told-front : (held more waits text : List ℕ) (n : ℕ) → n ≤ length text → Some ((held ++ more) ++ waits) ≡ Some (held ++ take n text) → GainsPrefix (Some held) (Some (held ++ more)) text
told-front held more waits text n within same =
    let lists : (held ++ more) ++ waits ≡ held ++ take n text = cc in
    let front = front-of more waits text n within (append_cancel_left held (more ++ waits) (take n text) (sym (append_assoc held more waits) ∙ lists)) in
    (length more, front.0, ap (λ (xs : List ℕ). Some (held ++ xs)) (sym front.1))

-- what arrived, of a front that was gained behind a page that was empty
GainsPrefix-below : (a b : Option (List ℕ)) (before waits text : List ℕ) → before ≡ [] → GainsPrefix (append_known a before) (append_known b waits) text → (more : List ℕ) × Gains a b more → GainsPrefix a b text
GainsPrefix-below None b before waits text none front grown = GainsPrefix-none None b text grown.1
GainsPrefix-below (Some held) None before waits text none front grown = let no : ⊥ = cc (grown.1) in absurd no
GainsPrefix-below (Some held) (Some here) [] waits text none (n, within, gains) (more, grown) =
    let start = append-nil held in
    let now : here ≡ held ++ more = cc in
    rw now (told-front held more waits text n within cc)
GainsPrefix-below (Some held) (Some here) (byte ∷ xs) waits text none front grown = let no : ⊥ = cc in absurd no

-- a flush is a write of nothing to the page and the sink below
pub flush-writes : {K T E : Type 0} (r : Result T E) (tells : Ghosts K) (p q : PagedSink K) → q.below.ghost_name ≡ p.below.ghost_name → WroteBy r (state_of tells p.below.now) (state_of tells q.below.now) (waiting p) → paged_held tells q ≡ paged_held tells p → WroteBy r (paged_state tells p) (paged_state tells q) []
flush-writes (Ok x) tells p q same below kept = record {
  all = record {
    whole = Gains-[] (paged_held tells p) (paged_held tells q) kept;
    quiet = below.all.quiet;
    passed = record { same_place = ap (λ name. Some name) same; grown = (waiting p, below.all.whole) };
  };
  front = tt;
}
flush-writes (Err e) tells p q same below kept = record {
  all = tt;
  front = record {
    prefix = GainsPrefix-none (paged_held tells p) (paged_held tells q) [] kept;
    rose = below.front.rose;
    passed = record { same_place = ap (λ name. Some name) same; grown = (take below.front.prefix.0 (waiting p), below.front.prefix.2) };
  };
}

-- what was written to a page that was empty, and is empty again, was written to the sink below. `sink` is
-- the sink as the page was made before it, and `last` as the page leaves it
pub WroteAll-below : {K : Type 0} (tells : Ghosts K) (sink last : K) (p q : PagedSink K) (text : List ℕ) → p.below.now ≡ sink → waiting p ≡ [] → last ≡ q.below.now → waiting q ≡ [] → WroteAll (paged_state tells p) (paged_state tells q) text → Gains (tells.held sink) (tells.held last) text
WroteAll-below tells sink last p q text made none left empty wrote =
    rw (← made, left) (Gains-below (tells.held p.below.now) (tells.held q.below.now) (paged_held tells q) (waiting p) (waiting q) text none wrote.whole empty refl)

-- where a call that wrote to a page that was empty fails, a front of its text was written to the sink below
pub WroteFront-below : {K : Type 0} (tells : Ghosts K) (sink last : K) (p q : PagedSink K) (text : List ℕ) → p.below.now ≡ sink → waiting p ≡ [] → last ≡ q.below.now → WroteFront (paged_state tells p) (paged_state tells q) text → GainsPrefix (tells.held sink) (tells.held last) text
WroteFront-below tells sink last p q text made none left wrote =
    rw (← made, left) (GainsPrefix-below (tells.held p.below.now) (tells.held q.below.now) (waiting p) (waiting q) text none wrote.prefix wrote.passed.grown)

-- the same where a flush ends it: on its success all of the text was written to the sink below
pub flush-whole : {K T E : Type 0} (r : Result T E) (tells : Ghosts K) (sink last : K) (p q s : PagedSink K) (text : List ℕ) → p.below.now ≡ sink → waiting p ≡ [] → WroteAll (paged_state tells p) (paged_state tells q) text → paged_held tells s ≡ paged_held tells q → OnOk r (waiting s ≡ []) → last ≡ s.below.now → OnOk r (Gains (tells.held sink) (tells.held last) text)
flush-whole (Ok x) tells sink last p q s text made none wrote kept empty left =
    rw (← made, left) (Gains-below (tells.held p.below.now) (tells.held s.below.now) (paged_held tells q) (waiting p) (waiting s) text none wrote.whole empty kept)
flush-whole (Err e) tells sink last p q s text made none wrote kept empty left = tt

-- and on its failure a front of it
pub flush-front : {K T E : Type 0} (r : Result T E) (tells : Ghosts K) (sink last : K) (p q s : PagedSink K) (text : List ℕ) → p.below.now ≡ sink → waiting p ≡ [] → WroteAll (paged_state tells p) (paged_state tells q) text → WroteBy r (paged_state tells q) (paged_state tells s) [] → last ≡ s.below.now → OnErr r (GainsPrefix (tells.held sink) (tells.held last) text)
flush-front (Ok x) tells sink last p q s text made none wrote flushed left = tt
flush-front (Err e) tells sink last p q s text made none wrote flushed left =
    WroteFront-below tells sink last p s text made none left (rw append-nil at (WroteFront-++ wrote flushed.front))
