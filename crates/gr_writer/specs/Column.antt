-- The columns of a list of edges.
use Rattle.std.specs.Prelude.{ℕ, List, map}
use Rattle.graph_model.specs.declared.edge.Edge.{Edge}
use Rattle.gr_writer.specs.declared.column.Column.{Column}
use Rattle.gr_writer.specs.declared.column.Column.TheVariants.{Destinations, Weights}

-- what a column has of an edge
abbrev pub entry_of : Column → Edge → ℕ
entry_of Destinations edge = edge.dst
entry_of Weights edge = edge.weight

-- what a column has of these edges
abbrev pub entries_of : Column → List Edge → List ℕ
entries_of column edges = map (entry_of column) edges
