-- Both rules as one: vertices in blocks, where the last host has what is past the last block.
use Rattle.std.specs.Prelude.{◌≡◌, ℕ, ◌/◌, ◌<◌, ◌≤◌, ◌↔◌, List, length, slice_index}
use Rattle.cusp_rules.specs.Formulas.{block_size, edges_of, vertices_of}
use Rattle.cusp_rules.specs.declared.master_rule.MasterRule.{MasterRule}
use Rattle.cusp_rules.specs.declared.master_rule.MasterRule.TheVariants.{Edges, Nodes}

-- the size of a rule's blocks
abbrev pub block_of : MasterRule → ℕ → List ℕ → ℕ
block_of Edges hosts starts = block_size (edges_of starts) hosts
block_of Nodes hosts starts = block_size (vertices_of starts) hosts

-- the block that v is in
abbrev pub quotient_of : MasterRule → ℕ → List ℕ → ℕ → ℕ
quotient_of Edges block starts v = slice_index starts v / block
quotient_of Nodes block starts v = v / block

-- bounds[h], for each h below `hosts`, is the first vertex that is in block h or a later one
pub record IsCut (quotient : ℕ → ℕ) (nodes hosts : ℕ) (bounds : List ℕ) : Type 0 where
  pub long : length bounds ≡ hosts
  pub within : (h : ℕ) → h < hosts → slice_index bounds h ≤ nodes
  pub first : (h v : ℕ) → h < hosts → v < nodes → (slice_index bounds h ≤ v) ↔ (h ≤ quotient v)
