-- The least that walks give to a node: the plain answer of a program that takes the least.
use Rattle.std.specs.Prelude.{◌≡◌, ℕ, ◌+◌, ◌≤◌, List, length, Option, Some, None, ◌==◌, if◌then◌else◌}
use Rattle.graph_model.specs.Arcs.{Arc}
use Rattle.graph_model.specs.Walks.{IsWalk, cost_of}

-- what walks start with at each node, if they may start there, and what an arc of a weight costs
pub record Fares : Type 0 where
  pub start : ℕ → Option ℕ
  pub cost : ℕ → ℕ

-- at most this many arcs, or any number
abbrev pub IsAtMost : Option ℕ → ℕ → Type 0
IsAtMost None n = Unit {0}
IsAtMost (Some limit) n = n ≤ limit

-- some walk to v, of no more arcs than the limit, gives v this total
pub record Gives (fares : Fares) (arcs : List Arc) (limit : Option ℕ) (v total : ℕ) : Type 0 where
  pub from : ℕ
  pub begin : ℕ
  pub path : List Arc
  pub starts : fares.start from ≡ Some begin
  pub walk : IsWalk arcs from path v
  pub short : IsAtMost limit (length path)
  pub adds_up : total ≡ begin + cost_of fares.cost path

-- the least total that walks to v give, and `None` where there is no walk
abbrev pub IsLeast : Fares → List Arc → Option ℕ → ℕ → Option ℕ → Type 0
IsLeast fares arcs limit v None = (total : ℕ) → Gives fares arcs limit v total → ⊥
IsLeast fares arcs limit v (Some least) =
    Gives fares arcs limit v least × ((total : ℕ) → Gives fares arcs limit v total → least ≤ total)

-- breadth-first search starts at the root alone, and counts arcs
abbrev pub bfs_fares : ℕ → Fares
bfs_fares root = record { start = λ u. if u == root then Some 0 else None; cost = λ weight. 1 }

-- shortest paths start at the root alone too, and count weights
abbrev pub sssp_fares : ℕ → Fares
sssp_fares root = record { start = λ u. if u == root then Some 0 else None; cost = λ weight. weight }

-- components start at each node with its own number, and arcs cost nothing
abbrev pub cc_fares : Fares
cc_fares = record { start = λ u. Some u; cost = λ weight. 0 }
