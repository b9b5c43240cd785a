-- The arcs on which a program may run.
use Rattle.std.specs.Prelude.{◌<◌, ◌≤◌, ◌^◌, ℕ, List, All}
use Rattle.graph_model.specs.Arcs.{Arc}

-- an arc between nodes, of a weight of four bytes
pub record IsArcOf (nodes : ℕ) (arc : Arc) : Type 0 where
  pub tail_within : arc.tail < nodes
  pub head_within : arc.head < nodes
  pub weight_fits : arc.weight < 2 ^ 32

-- arcs between nodes, whose numbers have four bytes
pub record AreArcsOf (nodes : ℕ) (arcs : List Arc) : Type 0 where
  pub few : nodes ≤ 2 ^ 32
  pub within : All (IsArcOf nodes) arcs
