-- The core of a graph: the largest set of nodes in which each has enough arcs from the set.
use Rattle.std.specs.Prelude.{◌≡◌, ◌<◌, ◌≤◌, ◌==◌, ◌&&◌, ℕ, Bool, true, List, length}
use Rattle.std.specs.List.{filter}
use Rattle.graph_model.specs.Arcs.{Arc}

-- how many of these arcs lead to v from a set, which is given as its test
abbrev pub inner_degree : List Arc → (ℕ → Bool) → ℕ → ℕ
inner_degree arcs set v = length (filter (λ arc. arc.head == v && set arc.tail) arcs)

-- a set of nodes in which each has an inner degree of at least k
pub record HoldsDegree (k nodes : ℕ) (arcs : List Arc) (set : ℕ → Bool) : Type 0 where
  pub within : (v : ℕ) → set v ≡ true → v < nodes
  pub enough : (v : ℕ) → set v ≡ true → k ≤ inner_degree arcs set v

-- the largest such set
pub record IsCore (k nodes : ℕ) (arcs : List Arc) (core : ℕ → Bool) : Type 0 where
  pub holds : HoldsDegree k nodes arcs core
  pub largest : (set : ℕ → Bool) → HoldsDegree k nodes arcs set → (v : ℕ) → set v ≡ true → core v ≡ true
