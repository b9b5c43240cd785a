-- The formulas by which each rule gives a vertex its master.
use Rattle.std.specs.Prelude.{◌≡◌, ℕ, ◌-◌, ◌/◌, ◌≤◌, min, max, List, length, map, slice_get, slice_index, Some}
use Rattle.std.specs.Int.{div_ceil}
use Rattle.std.specs.List.{range_with_len}
use Rattle.std.specs.List.Sorted.{IsNonDecreasing}
use Rattle.cusp_rules.specs.declared.master_rule.MasterRule.{MasterRule}
use Rattle.cusp_rules.specs.declared.master_rule.MasterRule.TheVariants.{Edges, Nodes}

-- there is one start a vertex, and one more
abbrev pub vertices_of : List ℕ → ℕ
vertices_of starts = length starts - 1

-- the last start is the number of edges
abbrev pub edges_of : List ℕ → ℕ
edges_of starts = slice_index starts (vertices_of starts)

-- Where the out-edges of each vertex start in the list of all edges, and where they end: the edges of
-- vertex v are those from the start of v up to, but not including, that of v + 1.
pub record IsStarts (starts : List ℕ) : Type 0 where
  pub begins : slice_get starts 0 ≡ Some 0
  pub rises : IsNonDecreasing starts
  pub vertices_fit : vertices_of starts ≤ 268_435_456
  pub edges_fit : edges_of starts ≤ 268_435_456

-- the size of a block, where `whole` is cut into one block a host
abbrev pub block_size : ℕ → ℕ → ℕ
block_size whole hosts = max 1 (div_ceil whole hosts)

-- The master of v. By edges it is the block that the first edge of v is in, and the last host for what
-- is past the last block. By nodes it is the block that v itself is in.
abbrev pub master_of : MasterRule → ℕ → List ℕ → ℕ → ℕ
master_of Edges hosts starts v = min (hosts - 1) (slice_index starts v / block_size (edges_of starts) hosts)
master_of Nodes hosts starts v = v / block_size (vertices_of starts) hosts

-- the master of each vertex
abbrev pub masters_of : MasterRule → ℕ → List ℕ → List ℕ
masters_of rule hosts starts = map (master_of rule hosts starts) (range_with_len 0 (vertices_of starts))
