-- What calls that read from a source, one after the other, come to together.
use Rattle.std.proofs.Common.{ℕ, List, [], ◌++◌, Result, Ok, Err, refl, ◌∙◌}
use Rattle.std.specs.Result.{IsErr}
use Rattle.io_edge.specs.Reading.{SourceState, Took, TookFront, ReadBy}
use Rattle.io_edge.proofs.Moves.{Gives-++, Gives-[], Rose-after}

-- bytes, and then more
pub Took-++ : {a b c : SourceState} {xs ys : List ℕ} → Took a b xs → Took b c ys → Took a c (xs ++ ys)
Took-++ {a} {b} {c} {xs} {ys} first second = record {
  gave = Gives-++ a.left b.left c.left xs ys first.gave second.gave;
  quiet = second.quiet ∙ first.quiet;
}

-- bytes, and then more up to a fault
pub TookFront-++ : {a b c : SourceState} {xs ys : List ℕ} → Took a b xs → TookFront b c ys → TookFront a c (xs ++ ys)
TookFront-++ {a} {b} {c} {xs} {ys} first second = record {
  gave = Gives-++ a.left b.left c.left xs ys first.gave second.gave;
  rose = Rose-after a.faults b.faults c.faults first.quiet second.rose;
}

-- nothing is taken where nothing happens
pub Took-[] : (a : SourceState) → Took a a []
Took-[] a = record { gave = Gives-[] a.left; quiet = refl }

-- what was taken before an error that is passed on
pub ReadBy-err : {T E : Type 0} (r : Result T E) (a b : SourceState) (got : T → List ℕ) (some : List ℕ) → IsErr r → TookFront a b some → ReadBy r a b got
ReadBy-err (Ok x) a b got some failed front = cc
ReadBy-err (Err e) a b got some failed front = (some, front)
