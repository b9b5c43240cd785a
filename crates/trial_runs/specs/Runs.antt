-- What a run tells that came to its end.
use Rattle.std.specs.Prelude.{◌≡◌, ◌+◌, ◌≤◌, ℕ, Bool, Option, List, map, option_map}
use Rattle.std.specs.List.{range_with_len}
use Rattle.graph_model.specs.Graph.{Graph}
use Rattle.graph_model.specs.Arcs.{arcs_of}
use Rattle.graph_model.specs.declared.edge.Way.{Way}
use Rattle.graph_model.specs.Least.{Fares}
use Rattle.graph_model.specs.WalkCount.{IsWalkCount}
use Rattle.graph_model.specs.Core.{IsCore}
use Rattle.graph_model.specs.Peeling.{IsPeelCount}
use Rattle.edge_owner.specs.declared.rules.Rules.{Rules}
use Rattle.memo_exchange.specs.Asks.{asked_after}
use Rattle.round_packets.specs.Runs.{Run, state_of}
use Rattle.run_text.specs.Asks.{asks}
use Rattle.run_engine.specs.Running.{TakesRounds}
use Rattle.trial_runs.specs.Trials.{AreLeastOfAll, picks_of}

-- a run takes no more than so many rounds
abbrev pub EndsWithin : {Item State Shown : Type 0} → Run Item State Shown → (budget : ℕ) → Type 0
EndsWithin run budget = (rounds : ℕ) × (rounds ≤ budget) × TakesRounds run rounds

-- what the vertices answer after the last round of a run, and the picks that it asked for
pub record AnswersAtLast {Item State Shown : Type 0} (run : Run Item State Shown) (nodes : ℕ) (answers : List (Option ℕ)) (old new : Option ℕ) : Type 0 where
  pub rounds : ℕ
  pub takes : TakesRounds run rounds
  pub within : rounds ≤ nodes + 1
  pub told : answers ≡ map (λ v. run.steps.answer (state_of run rounds v)) (range_with_len 0 nodes)
  pub asked : new ≡ option_map (asked_after (asks run.division rounds)) old

-- something is told of the least that walks give, and as many picks were asked for as finding it takes
pub record TellsLeast (fares : Fares) (way : Way) (rules : Rules) (hosts : ℕ) (graph : Graph) (Told : (ℕ → Option ℕ) → Type 0) (old new : Option ℕ) : Type 0 where
  pub least : ℕ → Option ℕ
  pub are_least : AreLeastOfAll fares way graph least
  pub told : Told least
  pub rounds : ℕ
  pub takes : IsWalkCount fares graph.nodes (arcs_of way graph.edges) rounds
  pub asked : new ≡ option_map (asked_after (picks_of rules hosts graph way rounds)) old

-- something is told of the core, and as many picks were asked for as finding it takes
pub record TellsCore (k : ℕ) (way : Way) (rules : Rules) (hosts : ℕ) (graph : Graph) (Told : (ℕ → Bool) → Type 0) (old new : Option ℕ) : Type 0 where
  pub core : ℕ → Bool
  pub is_core : IsCore k graph.nodes (arcs_of way graph.edges) core
  pub told : Told core
  pub rounds : ℕ
  pub takes : IsPeelCount k graph.nodes (arcs_of way graph.edges) rounds
  pub asked : new ≡ option_map (asked_after (picks_of rules hosts graph way rounds)) old
