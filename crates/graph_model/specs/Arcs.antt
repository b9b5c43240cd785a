-- The arcs of a graph under a way: what a program follows.
use Rattle.std.specs.Prelude.{ℕ, List, ◌++◌, map}
use Rattle.graph_model.specs.declared.edge.Edge.{Edge}
use Rattle.graph_model.specs.declared.edge.Way.{Way}
use Rattle.graph_model.specs.declared.edge.Way.TheVariants.{Outward, Inward, Both}

-- a step from `tail` to `head`, with the weight of its edge
pub record Arc : Type 0 where
  pub tail : ℕ
  pub head : ℕ
  pub weight : ℕ

-- an edge followed from source to destination
abbrev pub out_arc : Edge → Arc
out_arc edge = record { tail = edge.src; head = edge.dst; weight = edge.weight }

-- an edge followed back
abbrev pub in_arc : Edge → Arc
in_arc edge = record { tail = edge.dst; head = edge.src; weight = edge.weight }

-- The arcs of these edges. Repeated edges give repeated arcs, and a loop gives two under `Both`.
abbrev pub arcs_of : Way → List Edge → List Arc
arcs_of Outward edges = map out_arc edges
arcs_of Inward edges = map in_arc edges
arcs_of Both edges = map out_arc edges ++ map in_arc edges
