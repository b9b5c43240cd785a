-- Laws of walks and of the least that they give.
use Rattle.std.specs.Prelude.{◌≡◌, ℕ, ◌+◌, ◌≤◌, ◌↔◌, ◌⊎◌, List, [], ◌∷◌, ◌++◌, Contains, Option, Some, None}
use Rattle.std.specs.List.Sorted.{IsPermutation}
use Rattle.graph_model.specs.Graph.{Graph, IsGraph}
use Rattle.graph_model.specs.Arcs.{Arc, arcs_of}
use Rattle.graph_model.specs.Walks.{IsWalk}
use Rattle.graph_model.specs.Least.{Fares, Gives, IsLeast}
use Rattle.graph_model.specs.WalkCount.{IsWalkCount}
use Rattle.graph_model.specs.declared.edge.Way.{Way}

-- a path of some arcs to the tail of a last arc
pub record EndsByArc (arcs : List Arc) (u : ℕ) (path : List Arc) (v : ℕ) : Type 0 where
  pub before : List Arc
  pub last : Arc
  pub whole : path ≡ before ++ last ∷ []
  pub walk : IsWalk arcs u before last.tail
  pub member : Contains arcs last
  pub ends : last.head ≡ v

-- two walks join where the one ends and the other starts
abbrev pub WalksJoin : Type 0
WalksJoin =
    (arcs : List Arc) (u m v : ℕ) (front back : List Arc) →
    IsWalk arcs u front m → IsWalk arcs m back v → IsWalk arcs u (front ++ back) v

-- a walk may be cut after each of its arcs
abbrev pub WalksCut : Type 0
WalksCut =
    (arcs : List Arc) (u v : ℕ) (front back : List Arc) →
    IsWalk arcs u (front ++ back) v → (m : ℕ) × IsWalk arcs u front m × IsWalk arcs m back v

-- a walk with an arc in it has a last arc
abbrev pub WalksEndByArc : Type 0
WalksEndByArc =
    (arcs : List Arc) (u v : ℕ) (first : Arc) (rest : List Arc) →
    IsWalk arcs u (first ∷ rest) v → EndsByArc arcs u (first ∷ rest) v

-- what walks of one arc more give: a total at the arc's tail, and what the arc costs
pub record GivesByArc (fares : Fares) (arcs : List Arc) (limit v total : ℕ) : Type 0 where
  pub last : Arc
  pub before : ℕ
  pub member : Contains arcs last
  pub ends : last.head ≡ v
  pub gives : Gives fares arcs (Some limit) last.tail before
  pub adds_up : total ≡ before + fares.cost last.weight

-- the walks of at most one arc more are those within the limit, and those with a last arc after them
abbrev pub LevelsStep : Type 0
LevelsStep =
    (fares : Fares) (arcs : List Arc) (limit v total : ℕ) →
    Gives fares arcs (Some (limit + 1)) v total
    ↔ (Gives fares arcs (Some limit) v total ⊎ GivesByArc fares arcs limit v total)

-- the walks within a limit are among those within a larger one
abbrev pub LevelsGrow : Type 0
LevelsGrow =
    (fares : Fares) (arcs : List Arc) (limit larger v total : ℕ) →
    limit ≤ larger → Gives fares arcs (Some limit) v total → Gives fares arcs (Some larger) v total

-- the walks within a limit are among all walks
abbrev pub LevelsEnd : Type 0
LevelsEnd =
    (fares : Fares) (arcs : List Arc) (limit v total : ℕ) →
    Gives fares arcs (Some limit) v total → Gives fares arcs None v total

-- at most one answer is the least
abbrev pub LeastIsUnique : Type 0
LeastIsUnique =
    (fares : Fares) (arcs : List Arc) (limit : Option ℕ) (v : ℕ) (a b : Option ℕ) →
    IsLeast fares arcs limit v a → IsLeast fares arcs limit v b → a ≡ b

-- what a walk of a graph gives, a walk of fewer arcs than nodes gives too, or less
abbrev pub WalksShorten : Type 0
WalksShorten =
    (fares : Fares) (graph : Graph) (way : Way) (limit v total : ℕ) →
    IsGraph graph → graph.nodes ≤ limit + 1 → Gives fares (arcs_of way graph.edges) None v total →
    (less : ℕ) × (less ≤ total) × Gives fares (arcs_of way graph.edges) (Some limit) v less

-- the least over all walks of a graph is the least over those of fewer arcs than nodes
abbrev pub LeastIsWithinNodes : Type 0
LeastIsWithinNodes =
    (fares : Fares) (graph : Graph) (way : Way) (limit v : ℕ) (least : Option ℕ) →
    IsGraph graph → graph.nodes ≤ limit + 1 →
    IsLeast fares (arcs_of way graph.edges) None v least
    ↔ IsLeast fares (arcs_of way graph.edges) (Some limit) v least

-- which arcs there are makes the least, and neither their order nor how often they stand
abbrev pub ArcsAreASet : Type 0
ArcsAreASet =
    (fares : Fares) (arcs others : List Arc) (limit : Option ℕ) (v : ℕ) (least : Option ℕ) →
    ((arc : Arc) → Contains arcs arc ↔ Contains others arc) →
    IsLeast fares arcs limit v least → IsLeast fares others limit v least

-- so the order of the arcs makes no difference
abbrev pub LeastOrderIsFree : Type 0
LeastOrderIsFree =
    (fares : Fares) (arcs others : List Arc) (limit : Option ℕ) (v : ℕ) (least : Option ℕ) →
    IsPermutation arcs others → IsLeast fares arcs limit v least → IsLeast fares others limit v least

-- neither to the number of rounds
abbrev pub WalkCountOrderIsFree : Type 0
WalkCountOrderIsFree =
    (fares : Fares) (nodes : ℕ) (arcs others : List Arc) (rounds : ℕ) →
    IsPermutation arcs others → IsWalkCount fares nodes arcs rounds → IsWalkCount fares nodes others rounds

-- walks take one number of rounds
abbrev pub WalkCountIsUnique : Type 0
WalkCountIsUnique =
    (fares : Fares) (nodes : ℕ) (arcs : List Arc) (rounds others : ℕ) →
    IsWalkCount fares nodes arcs rounds → IsWalkCount fares nodes arcs others → rounds ≡ others
