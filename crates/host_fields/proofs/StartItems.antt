-- The item of one proxy at the start.
use Rattle.std.proofs.Common.{◌≡◌, ◌<◌, ◌≤◌, ℕ, List, get_or}
use Rattle.reduce_laws.specs.ReductionLaws.{Reducer}
use Rattle.reduce_laws.specs.ProgramLaws.{Steps}

-- an item that is a master's or a mirror's at the start
pub record IsStartItem {Item State Shown : Type 0} (IsItem : Item → Type 0) (reducer : Reducer Item) (steps : Steps Item State Shown) (masters : ℕ) (shown : List Shown) (lid : ℕ) (item : Item) : Type 0 where
  pub sum : lid < masters → item ≡ reducer.identity
  pub keeps : (y : Shown) → masters ≤ lid → item ≡ steps.keep (get_or shown lid y)
  pub is_item : IsItem item
