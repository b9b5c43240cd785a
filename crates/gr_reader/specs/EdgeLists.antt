-- The edges of a file while its destinations and its weights are taken in.
use Rattle.std.specs.Prelude.{◌≡◌, ℕ, ◌≤◌, ◌<◌, ◌^◌, List, length, drop, map, All, None}
use Rattle.list_laws.specs.Rising.{NeverFalls}
use Rattle.graph_model.specs.declared.edge.Edge.{Edge}
use Rattle.graph_model.specs.Graph.{most_nodes, most_edges}
use Rattle.edge_columns.specs.Columns.{last_entry, sources, plain_edges, weighed}
use Rattle.gr_reader.specs.File.{destination_fault}

-- the edges with weight 1
abbrev pub unweighed : List Edge → List Edge
unweighed edges = map (λ edge. record { src = edge.src; dst = edge.dst; weight = 1 }) edges

-- The edges from number `count` on have their sources at `node` or after it: the entries from there on
-- give the sources that are still to come.
pub record IsCursor (ends : List ℕ) (node count : ℕ) : Type 0 where
  pub rest : drop count (sources 0 0 ends) ≡ sources node count (drop node ends)
  pub rising : NeverFalls count (drop node ends)
  pub last : last_entry count (drop node ends) ≡ last_entry 0 ends
  pub nodes : length ends ≤ most_nodes
  pub edges : last_entry 0 ends ≤ most_edges

-- these are the edges to the destinations so far, all of which are nodes
pub record TookDestinations (nodes : ℕ) (ends : List ℕ) (edges : List Edge) (numbers : List ℕ) : Type 0 where
  pub edges_are : edges ≡ plain_edges (sources 0 0 ends) numbers
  pub count : length edges ≡ length numbers
  pub clear : destination_fault nodes 0 numbers ≡ None

-- the edges so far have the weights so far
pub record TookWeights (edges : List Edge) (place : ℕ) (numbers : List ℕ) : Type 0 where
  pub edges_are : edges ≡ weighed (unweighed edges) numbers
  pub count : place ≡ length numbers
  pub light : All (λ weight. weight < 2 ^ 32) numbers
