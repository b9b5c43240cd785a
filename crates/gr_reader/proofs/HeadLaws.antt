-- What the bytes of the head say, whatever follows them.
use Rattle.std.proofs.Common.{◌≡◌, ℕ, ◌+◌, ◌<◌, ◌≤◌, Bool, true, false, List, ◌++◌, length, take, drop, Option, None, Some, IfSome, MatchResult, Result, Ok, Err, ◌==◌, ◌||◌, leb, refl, sym, ap, ◌∙◌, ⊎_elim, arith, length-append, length-drop}
use Rattle.std.proofs.lemmas.Bool.{cases_lt}
use Rattle.std.proofs.lemmas.Bool.Decides.{nat_tests}
use Rattle.std.proofs.lemmas.List.{drop-append-le, drop_at}
use Rattle.list_laws.specs.LittleEndian.{le_number}
use Rattle.list_laws.proofs.WholeNumbers.{first_number-append}
use Rattle.io_edge.specs.Bytes.{Gives}
use Rattle.io_edge.proofs.Moves.{Gives-told}
use Rattle.graph_model.specs.Graph.{most_nodes, most_edges}
use Rattle.gr_reader.specs.declared.head.Head.{Head}
use Rattle.gr_reader.specs.declared.section.Section.TheVariants as section
use Rattle.gr_reader.specs.declared.fault.GrFault.{GrFault}
use Rattle.gr_reader.specs.declared.fault.GrFault.TheVariants.{Ends, Version, EdgeSize, Nodes, Edges}
use Rattle.gr_reader.specs.Cause.{cause_of}
use Rattle.gr_reader.specs.File.{◌>>=◌, demand, long_at, head_at}
use Rattle.gr_reader.specs.Reading.{Means}
use Rattle.gr_reader.specs.Sections.{IsAtEnd}
use Rattle.gr_reader.proofs.CauseLaws.{IfBytes-always}
use Rattle.gr_reader.proofs.TakingLaws.{Gives-all}

-- a number that lies in the first part
long_at-append : (place : ℕ) (xs ys : List ℕ) → place + 8 ≤ length xs → long_at place (xs ++ ys) ≡ long_at place xs
long_at-append place xs ys fits =
    ap (λ (l : List ℕ). le_number (take 8 l)) (drop-append-le place xs ys (omega arith)) ∙ first_number-append 8 (drop place xs) ys (omega (arith, length-drop place xs))

-- what comes after four tests may come behind the last
four_tests : {A B : Type 0} (a b c d : Bool) (e f g h : GrFault) (x : A) (next : A → Result B GrFault)
    → ((demand a e >>= λ _. demand b f >>= λ _. demand c g >>= λ _. demand d h >>= λ _. Ok x) >>= next)
    ≡ (demand a e >>= λ _. demand b f >>= λ _. demand c g >>= λ _. demand d h >>= λ _. next x)
four_tests false b c d e f g h x next = refl
four_tests true false c d e f g h x next = refl
four_tests true true false d e f g h x next = refl
four_tests true true true false e f g h x next = refl
four_tests true true true true e f g h x next = refl

-- the head does not depend on what follows it
head_at-append : (got rest : List ℕ) → length got ≡ 32 → head_at (got ++ rest) ≡ (head_at got >>= λ found. Ok (found.0, rest))
unfolding head_at
head_at-append got rest whole =
    let all : leb 32 (length (got ++ rest)) ≡ true = let long = length-append got rest in grind (arith, nat_tests) in
    let enough : leb 32 (length got) ≡ true = grind (arith, nat_tests) in
    let a = long_at-append 0 got rest (omega arith) in
    let b = long_at-append 8 got rest (omega arith) in
    let c = long_at-append 16 got rest (omega arith) in
    let d = long_at-append 24 got rest (omega arith) in
    rw (all, enough, a, b, c, d, drop_at got rest 32 whole) (sym (four_tests (long_at 0 got == 1) (long_at 8 got == 0 || long_at 8 got == 4) (leb (long_at 16 got) most_nodes) (leb (long_at 24 got) most_edges)
    (Version (long_at 0 got)) (EdgeSize (long_at 8 got)) (Nodes (long_at 16 got)) (Edges (long_at 24 got)) _ (λ (found : Head × List ℕ). Ok (found.0, rest))))

-- the input ends in the head
head_at-short : (got : List ℕ) → length got < 32 → head_at got ≡ Err (Ends section.Head (length got))
unfolding head_at
head_at-short got short =
    let few : leb 32 (length got) ≡ false = grind (arith, nat_tests) in
    rw few refl

-- what the head is, where all that came was looked at
pub head_taken : (old new : Option (List ℕ)) (got : List ℕ) (found : Result Head GrFault) → Gives old new got → length got ≤ 32 → (length got < 32 → IsAtEnd new)
    → MatchResult found (λ head. head_at got ≡ Ok (head, drop 32 got)) (λ fault. head_at got ≡ Err fault)
    → IfSome old (λ bytes. Means (λ head. head) found new (head_at bytes))
head_taken None new got found gives within last is = tt
head_taken (Some bytes) new got (Ok head) gives within last is = ⊎_elim
    (λ (short : length got < 32). absurd (let e = head_at-short got short in cc))
    (λ (enough : 32 ≤ length got).
    let told = Gives-told bytes got new gives in
    let all : head_at (got ++ told.0) ≡ Ok (head, told.0) = rw is at (head_at-append got told.0 (omega arith)) in
    rw told.1 (ap head_at told.2 ∙ all))
    (cases_lt (length got) 32)
head_taken (Some bytes) new got (Err fault) gives within last is = ⊎_elim
    (λ (short : length got < 32). IfBytes-always (cause_of fault) _ (ap head_at (Gives-all bytes new got gives (last short)) ∙ is))
    (λ (enough : 32 ≤ length got).
    let told = Gives-told bytes got new gives in
    let all : head_at (got ++ told.0) ≡ Err fault = rw is at (head_at-append got told.0 (omega arith)) in
    IfBytes-always (cause_of fault) _ (ap head_at told.2 ∙ all))
    (cases_lt (length got) 32)
