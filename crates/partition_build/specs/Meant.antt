-- What hosts hold of the graph of a file.
use Rattle.std.specs.Prelude.{◌≡◌, ℕ, List, Option, Some, Result, Ok, Err}
use Rattle.graph_model.specs.Graph.{Graph, IsGraph}
use Rattle.gr_reader.specs.declared.fault.GrFault.{GrFault}
use Rattle.gr_reader.specs.Reading.{Refuses}
use Rattle.edge_owner.specs.declared.rules.Rules.{Rules}
use Rattle.graph_division.specs.Shares.{Share}
use Rattle.share_plan.specs.Owners.{shares_of}

-- the shares of the graph that is meant, with the bytes that follow it, or the same fault
abbrev pub shared : Rules → (hosts : ℕ) → Result (Graph × List ℕ) GrFault → Result (List Share × List ℕ) GrFault
shared rules hosts (Ok found) = Ok (shares_of rules hosts found.0, found.1)
shared rules hosts (Err fault) = Err fault

-- shares are those of some graph of so many nodes by these rules
pub record AreShared (rules : Rules) (hosts nodes : ℕ) (shares : List Share) : Type 0 where
  pub graph : Graph
  pub is_graph : IsGraph graph
  pub as_many_nodes : graph.nodes ≡ nodes
  pub shared_out : shares ≡ shares_of rules hosts graph

-- the graph that is meant, what the source has left behind it, and what each host holds of it
pub record FoundShares (rules : Rules) (hosts : ℕ) (shares : List Share) (left : Option (List ℕ)) (meaning : Result (Graph × List ℕ) GrFault) : Type 0 where
  pub graph : Graph
  pub after : List ℕ
  pub means : meaning ≡ Ok (graph, after)
  pub leaves : left ≡ Some after
  pub is_graph : IsGraph graph
  pub shared_out : shares ≡ shares_of rules hosts graph

-- the shares of the graph that is meant, seen by `view`; or the fault is what is meant
abbrev pub FindsShares : {X : Type 0} → (rules : Rules) (hosts : ℕ) → (X → List Share) → Result X GrFault → Option (List ℕ) → Result (Graph × List ℕ) GrFault → Type 0
FindsShares rules hosts view (Ok x) left meaning = FoundShares rules hosts (view x) left meaning
FindsShares rules hosts view (Err fault) left meaning = Refuses fault meaning
