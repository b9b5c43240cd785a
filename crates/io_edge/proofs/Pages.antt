-- A page before a sink: its part that waits shrinks at the front and grows at the end, and nothing of it is lost.
use Rattle.std.proofs.Common.{◌≡◌, ℕ, ◌+◌, ◌-◌, ◌≤◌, List, [], ◌∷◌, ◌++◌, length, take, drop, Option, Some, None, Result, Ok, Err, IfOk, OnErr, refl, sym, ap, ◌∙◌, arith, append_assoc, length-take}
use Rattle.std.proofs.lemmas.List.{drop-drop, drop-take, take-append-drop, drop-append-le}
use Rattle.std.specs.List.{slice_range}
use Rattle.std.specs.Io.KnownBytes.{append_known}
use Rattle.io_edge.specs.Bytes.{Gains}
use Rattle.io_edge.proofs.Moves.{Gains-[]}

-- a part behind its front
part-behind : (xs : List ℕ) (first end n : ℕ) → first + n ≤ end → drop n (slice_range xs first end) ≡ slice_range xs (first + n) end
part-behind xs first end n le =
    let m = end - (first + n) in
    let size : end - first ≡ n + m = omega arith in
    rw size (drop-take n m (drop first xs) ∙ ap (take m) (drop-drop n first xs))

-- a part is its front and what is behind that
pub part-front : (xs : List ℕ) (first end n : ℕ) → first + n ≤ end → take n (slice_range xs first end) ++ slice_range xs (first + n) end ≡ slice_range xs first end
part-front xs first end n le = rw (← part-behind xs first end n le) (take-append-drop n (slice_range xs first end))

-- a part that is put together from its two ends
part-of-front : (xs : List ℕ) (first end : ℕ) → first ≤ end → slice_range xs first end ≡ drop first (take end xs)
part-of-front xs first end le =
    let size : end ≡ first + (end - first) = omega arith in
    rw (← drop-take first (end - first) xs) (ap (λ k. drop first (take k xs)) (sym size))

-- a part grows by what is put behind it
pub part-more : (xs ys more : List ℕ) (first end : ℕ) → first ≤ end → end ≤ length xs → take (end + length more) ys ≡ take end xs ++ more → slice_range ys first (end + length more) ≡ slice_range xs first end ++ more
part-more xs ys more first end le within put =
    let size = length-take end xs in
    let far : first ≤ length (take end xs) = omega arith in
    let long : first ≤ end + length more = omega arith in
    part-of-front ys first (end + length more) long ∙ ap (drop first) put ∙ drop-append-le first (take end xs) more far ∙ ap (λ zs. zs ++ more) (sym (part-of-front xs first end le))

-- what goes down is gone from what waits, and nothing is lost
pub held-moved : (a b : Option (List ℕ)) (done rest : List ℕ) → Gains a b done → append_known b rest ≡ append_known a (done ++ rest)
held-moved None None done rest gains = refl
held-moved None (Some held) done rest gains = let no : ⊥ = cc in absurd no
held-moved (Some held) None done rest gains = let no : ⊥ = cc in absurd no
held-moved (Some held) (Some more) done rest gains = let e = append_assoc held done rest in cc

-- what waits behind what is held, and then more
pub held-more : (a : Option (List ℕ)) (waits more : List ℕ) → append_known a (waits ++ more) ≡ append_known (append_known a waits) more
held-more None waits more = refl
held-more (Some held) waits more = ap Some (sym (append_assoc held waits more))

-- a piece that goes straight down, where nothing waits
pub gained-straight : {E : Type 0} (r : Result ℕ E) (o a b : Option (List ℕ)) (waits bytes : List ℕ) → append_known a waits ≡ o → waits ≡ [] → IfOk r (λ n. Gains a b (take n bytes)) → IfOk r (λ n. Gains o (append_known b waits) (take n bytes))
gained-straight (Ok n) o a b [] bytes kept none gains =
    let below = Gains-[] a a refl in
    let after = Gains-[] b b refl in
    cc
gained-straight (Ok n) o a b (byte ∷ more) bytes kept none gains = let no : ⊥ = cc in absurd no
gained-straight (Err e) o a b waits bytes kept none gains = tt

-- what the sink below holds grows by what a write gave it
pub grown-by : {E : Type 0} (r : Result ℕ E) (a b : Option (List ℕ)) (bytes : List ℕ) → IfOk r (λ n. Gains a b (take n bytes)) → OnErr r (b ≡ a) → (more : List ℕ) × Gains a b more
grown-by (Ok n) a b bytes gains same = (take n bytes, gains)
grown-by (Err e) a b bytes gains same = ([], Gains-[] a b same)
