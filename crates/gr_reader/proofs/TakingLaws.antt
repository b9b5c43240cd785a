-- Laws of bytes that a source loses at its front.
use Rattle.std.proofs.Common.{◌≡◌, ℕ, ◌+◌, ◌≤◌, List, ◌++◌, None, Some, Option, arith, length-append}
use Rattle.std.proofs.lemmas.List.{append-nil}
use Rattle.io_edge.specs.Bytes.{Gives}
use Rattle.io_edge.proofs.Moves.{Gives-++}
use Rattle.gr_reader.specs.Sections.{IsAtEnd}
use Rattle.gr_reader.specs.Reach.{TakesAtMost}

-- all came, where the input is at its end
pub Gives-all : (bytes : List ℕ) (new : Option (List ℕ)) (got : List ℕ) → Gives (Some bytes) new got → IsAtEnd new → bytes ≡ got
Gives-all bytes None got gives last = absurd (cc)
Gives-all bytes (Some rest) got gives last = let e = append-nil got in cc

-- what one call took, and then another
pub TakesAtMost-then : (m n limit : ℕ) (old mid new : Option (List ℕ)) → m + n ≤ limit → TakesAtMost m old mid → TakesAtMost n mid new → TakesAtMost limit old new
TakesAtMost-then m n limit old mid new within first second = record {
  got = first.got ++ second.got;
  gives = Gives-++ old mid new first.got second.got first.gives second.gives;
  within = omega (arith, length-append first.got second.got, first.within, second.within);
}

-- up to a higher limit
pub TakesAtMost-more : (m limit : ℕ) (old new : Option (List ℕ)) → m ≤ limit → TakesAtMost m old new → TakesAtMost limit old new
TakesAtMost-more m limit old new within takes = record { got = takes.got; gives = takes.gives; within = omega (arith, takes.within) }
