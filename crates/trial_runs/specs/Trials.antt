-- What the four programs tell of a graph, and for how many picks they ask.
use Rattle.std.specs.Prelude.{◌≡◌, ◌<◌, ◌+◌, ℕ, nat_eq, Bool, Option, Some, None, length, map, option_map}
use Rattle.std.specs.List.{filter, range_with_len}
use Rattle.std.specs.Option.{option_eq}
use Rattle.graph_model.specs.Graph.{Graph}
use Rattle.graph_model.specs.Arcs.{arcs_of}
use Rattle.graph_model.specs.declared.edge.Way.{Way}
use Rattle.graph_model.specs.declared.edge.Way.TheVariants.{Outward, Both}
use Rattle.graph_model.specs.Least.{Fares, IsLeast, bfs_fares, sssp_fares, cc_fares}
use Rattle.graph_model.specs.WalkCount.{IsWalkCount}
use Rattle.graph_model.specs.Core.{IsCore}
use Rattle.graph_model.specs.Peeling.{IsPeelCount}
use Rattle.graph_division.specs.Partition.{division_of}
use Rattle.graph_maker.specs.Summary.{summary_of}
use Rattle.edge_owner.specs.declared.rules.Rules.{Rules}
use Rattle.share_plan.specs.Owners.{shares_of}
use Rattle.memo_exchange.specs.Asks.{asked_after}
use Rattle.run_text.specs.Asks.{asks}
use Rattle.trial_runs.specs.declared.trial.Trial.{Trial}

-- how many of so many vertices have their own number for their label
abbrev pub own_labels : (nodes : ℕ) → (label : ℕ → Option ℕ) → ℕ
own_labels nodes label = length (filter (λ v. option_eq nat_eq (label v) (Some v)) (range_with_len 0 nodes))

-- this is the least that walks give each vertex of a graph whose edges are followed in a way
abbrev pub AreLeastOfAll : Fares → Way → Graph → (least : ℕ → Option ℕ) → Type 0
AreLeastOfAll fares way graph least = (v : ℕ) → v < graph.nodes → IsLeast fares (arcs_of way graph.edges) None v (least v)

-- what is told of a graph is what its walks and its core are
pub record IsTrial (graph : Graph) (trial : Trial) : Type 0 where
  pub distance : ℕ → Option ℕ
  pub cost : ℕ → Option ℕ
  pub label : ℕ → Option ℕ
  pub core : ℕ → Bool
  pub are_distances : AreLeastOfAll (bfs_fares 0) Outward graph distance
  pub are_costs : AreLeastOfAll (sssp_fares 0) Outward graph cost
  pub are_labels : AreLeastOfAll cc_fares Both graph label
  pub is_core : IsCore 8 graph.nodes (arcs_of Both graph.edges) core
  pub nodes : trial.nodes ≡ graph.nodes
  pub edges : trial.edges ≡ length graph.edges
  pub distances : trial.distances ≡ summary_of (map distance (range_with_len 0 graph.nodes))
  pub costs : trial.costs ≡ summary_of (map cost (range_with_len 0 graph.nodes))
  pub labels : trial.labels ≡ own_labels graph.nodes label
  pub members : trial.members ≡ length (filter core (range_with_len 0 graph.nodes))

-- the picks that a run of so many rounds asks for, on a graph that hosts share out by rules
abbrev pub picks_of : Rules → (hosts : ℕ) → Graph → Way → (rounds : ℕ) → ℕ
picks_of rules hosts graph way rounds = asks (division_of way (shares_of rules hosts graph)) rounds

-- the picks that the four runs ask for, each as many as its own number of rounds takes
pub record AsksForTrial (rules : Rules) (hosts : ℕ) (graph : Graph) (old new : Option ℕ) : Type 0 where
  pub bfs : ℕ
  pub sssp : ℕ
  pub cc : ℕ
  pub kcore : ℕ
  pub takes_bfs : IsWalkCount (bfs_fares 0) graph.nodes (arcs_of Outward graph.edges) bfs
  pub takes_sssp : IsWalkCount (sssp_fares 0) graph.nodes (arcs_of Outward graph.edges) sssp
  pub takes_cc : IsWalkCount cc_fares graph.nodes (arcs_of Both graph.edges) cc
  pub takes_kcore : IsPeelCount 8 graph.nodes (arcs_of Both graph.edges) kcore
  pub asked : new
      ≡ option_map (asked_after (picks_of rules hosts graph Outward bfs + picks_of rules hosts graph Outward sssp + picks_of rules hosts graph Both cc + picks_of rules hosts graph Both kcore)) old
