-- What the loading of a graph promises.
use Rattle.std.specs.Prelude.{◌≡◌, ℕ, List, Option, Some, IsSomeAnd, Result, Ok, Err}
use Rattle.graph_model.specs.Graph.{Graph, IsGraph}
use Rattle.graph_division.specs.Shares.{Share}
use Rattle.share_plan.specs.Owners.{shares_of}
use Rattle.edge_owner.specs.declared.rules.Rules.{Rules}
use Rattle.job_text.specs.declared.fault.Fault.{Fault}
use Rattle.gluon_top.specs.Outcome.{Stops}

-- What a call returned with its graph, or with the shares of the graph, seen by `view`, is what is meant, and what the
-- source has left follows it; or the fault is what is meant.
abbrev pub LoadsWith : {X Y : Type 0} → (X → Y) → Result X Fault → Option (List ℕ) → Result (Y × List ℕ) Fault → Type 0
LoadsWith view (Ok x) left meaning = IsSomeAnd left (λ rest. meaning ≡ Ok (view x, rest))
LoadsWith view (Err fault) left meaning = Stops fault meaning

-- the graph that is meant, what the source has left behind it, and what each host holds of it
pub record FoundShares (rules : Rules) (hosts : ℕ) (shares : List Share) (left : Option (List ℕ)) (meaning : Result (Graph × List ℕ) Fault) : Type 0 where
  pub graph : Graph
  pub after : List ℕ
  pub means : meaning ≡ Ok (graph, after)
  pub leaves : left ≡ Some after
  pub is_graph : IsGraph graph
  pub shared_out : shares ≡ shares_of rules hosts graph

-- the shares of the graph that is meant; or the fault is what is meant
abbrev pub FindsShares : {X : Type 0} → (rules : Rules) (hosts : ℕ) → (X → List Share) → Result X Fault → Option (List ℕ) → Result (Graph × List ℕ) Fault → Type 0
FindsShares rules hosts view (Ok x) left meaning = FoundShares rules hosts (view x) left meaning
FindsShares rules hosts view (Err fault) left meaning = Stops fault meaning
