-- How the bytes of a section are taken in, piece by piece.
use Rattle.std.specs.Prelude.{◌≡◌, ℕ, ◌⊎◌, List, [], ◌++◌, Option, None, Some, IfSome, Result, Ok}
use Rattle.graph_model.specs.declared.edge.Edge.{Edge}
use Rattle.gr_reader.specs.declared.fault.GrFault.{GrFault}
use Rattle.gr_reader.specs.declared.fault.GrFault.TheVariants.{Memory}
use Rattle.edge_columns.specs.Columns.{last_entry}
use Rattle.gr_reader.specs.File.{entry_fault}
use Rattle.gr_reader.specs.Reading.{Refuses}

-- what stays as it is while a section is taken in
pub record Fixed : Type 0 where
  pub nodes : ℕ
  pub ends : List ℕ
  pub edges : List Edge

-- the numbers of a section have 4 bytes each, or 8
abbrev pub IsSize : ℕ → Type 0
IsSize size = (size ≡ 4) ⊎ (size ≡ 8)

-- no byte is left, where that is told
abbrev pub IsAtEnd : Option (List ℕ) → Type 0
IsAtEnd left = IfSome left (λ bytes. bytes ≡ [])

-- a section came whole: its numbers were taken, and they are what the bytes mean where these are told
pub record Came (old new : Option (List ℕ)) (meaning : List ℕ → Result (List ℕ × List ℕ) GrFault) (took : List ℕ → Type 0) : Type 0 where
  pub numbers : List ℕ
  pub taken : took numbers
  pub means : (bytes : List ℕ) → old ≡ Some bytes → (rest : List ℕ) × (new ≡ Some rest) × (meaning bytes ≡ Ok (numbers, rest))

-- a section did not come whole: this is why, where the bytes are told
abbrev pub Broke : {Y : Type 0} → Option (List ℕ) → (List ℕ → Result (Y × List ℕ) GrFault) → GrFault → Type 0
Broke old meaning fault = (bytes : List ℕ) → old ≡ Some bytes → Refuses fault (meaning bytes)

-- the fault that was found, or want of memory
abbrev pub IsFound : Option GrFault → GrFault → Type 0
IsFound found fault = (fault ≡ Memory) ⊎ (found ≡ Some fault)

-- what is found in a front is found in all
abbrev pub FindsFirst : (List ℕ → Option GrFault) → Type 0
FindsFirst find = (xs ys : List ℕ) (fault : GrFault) → find xs ≡ Some fault → find (xs ++ ys) ≡ Some fault

-- these are the entries so far, the last is `before`, and none falls
pub record TookIndex (entries : List ℕ) (before : ℕ) (numbers : List ℕ) : Type 0 where
  pub entries_are : entries ≡ numbers
  pub last : last_entry 0 numbers ≡ before
  pub clear : entry_fault 0 0 numbers ≡ None
