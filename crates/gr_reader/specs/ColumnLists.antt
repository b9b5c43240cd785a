-- The columns of a graph while the sections of a file are taken in.
use Rattle.std.specs.Prelude.{◌≡◌, ℕ, ◌-◌, ◌<◌, ◌≤◌, ◌^◌, List, ◌∷◌, ◌++◌, length, replicate, All, None}
use Rattle.list_laws.specs.Rising.{NeverFalls}
use Rattle.edge_columns.specs.Columns.{last_entry}
use Rattle.gr_reader.specs.declared.head.Head.{Head}
use Rattle.gr_reader.specs.File.{destination_fault}

-- these are the starts by this index: 0, and then its entries
pub record AreStarts (head : Head) (starts numbers : List ℕ) : Type 0 where
  pub starts_are : starts ≡ 0 ∷ numbers
  pub nodes : length numbers ≡ head.nodes
  pub rising : NeverFalls 0 numbers
  pub edges : last_entry 0 numbers ≡ head.edges

-- these are the destinations so far, all of which are nodes
pub record TookDestinationColumn (nodes : ℕ) (destinations numbers : List ℕ) : Type 0 where
  pub destinations_are : destinations ≡ numbers
  pub clear : destination_fault nodes 0 numbers ≡ None

-- these are the weights so far
pub record TookWeightColumn (weights numbers : List ℕ) : Type 0 where
  pub weights_are : weights ≡ numbers
  pub light : All (λ weight. weight < 2 ^ 32) numbers

-- the weights of so many edges: those that the file has, and 1 for each edge for which it has none
pub record AreWeights (count : ℕ) (weights numbers : List ℕ) : Type 0 where
  pub weights_are : weights ≡ numbers ++ replicate (count - length numbers) 1
  pub enough : length numbers ≤ count
  pub light : All (λ weight. weight < 2 ^ 32) weights
