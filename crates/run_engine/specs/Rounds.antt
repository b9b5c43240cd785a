-- The rounds of a run, one by one.
use Rattle.std.specs.Prelude.{◌≡◌, ◌<◌, ◌≤◌, ◌+◌, ◌*◌, ◌^◌, ℕ, Bool, List, Option, Some, None, Result, Ok, Err}
use Rattle.graph_model.specs.declared.edge.Way.{Way}
use Rattle.graph_division.specs.Shares.{Share}
use Rattle.io_edge.specs.Writing.{SinkState, WroteAll, WroteFront}
use Rattle.round_packets.specs.Runs.{Run}
use Rattle.round_driver.specs.ClusterState.{ClusterState, shares_of}
use Rattle.run_text.specs.Told.{told_by}
use Rattle.run_text.specs.Text.{if_asked, round_lines, trace_lines}
use Rattle.run_engine.specs.declared.finished.Finished.{Finished}
use Rattle.run_engine.specs.Running.{KeepsChanging, HasRun, HasFinished}

-- what is run: a program, on the graph of a partition, whose edges are followed in a way
pub record Plan (Program : Type 0) : Type 0 where
  pub program : Program
  pub way : Way
  pub shares : List Share

-- that of a cluster
abbrev pub plan_of : {Program Item State Shown : Type 0} → ClusterState Program Item State Shown → Plan Program
plan_of cluster = record { program = cluster.program; way = cluster.way; shares = shares_of cluster }

-- what no rounds come to
abbrev pub nothing_yet : Finished
nothing_yet = record { rounds = 0; packets = 0; bytes = 0 }

module _ {Program Item State Shown : Type 0} (item_bytes : Item → List ℕ) (shown_bytes : Shown → List ℕ) (run : Run Item State Shown) (plan : Plan Program) where
  -- rounds were run, and what they came to fits its counts
  pub record HasCounted (cluster : ClusterState Program Item State Shown) (finished : Finished) : Type 0 where
    pub has_run : HasRun item_bytes shown_bytes run plan.program plan.way plan.shares cluster finished
    pub few : finished.bytes ≤ finished.rounds * 2 ^ 64

  -- rounds ended without text: with the first that changed nothing, or with the last that was allowed
  abbrev pub EndsRoundsQuietly : (budget : ℕ) → Option Finished → ClusterState Program Item State Shown → Type 0
  EndsRoundsQuietly budget (Some finished) cluster = HasFinished item_bytes shown_bytes run plan.program plan.way plan.shares budget cluster finished
  EndsRoundsQuietly budget None cluster = (cluster.round ≡ budget) × KeepsChanging run budget

module _ {Item State Shown : Type 0} (item_bytes : Item → List ℕ) (shown_bytes : Shown → List ℕ) (run : Run Item State Shown) (trace : Bool) where
  -- the packets of the round after so many, where they are asked for
  abbrev pub round_text : ℕ → List ℕ
  round_text rounds = if_asked trace (round_lines run.division (told_by item_bytes shown_bytes run) rounds)

  -- the packets of so many rounds, where they are asked for
  abbrev pub rounds_text : ℕ → List ℕ
  rounds_text rounds = if_asked trace (trace_lines run.division (told_by item_bytes shown_bytes run) rounds)

  -- a write failed within a round that was allowed, and each round before it changed something
  pub record BreaksRounds (budget : ℕ) (old new : SinkState) : Type 0 where
    pub before : ℕ
    pub early : before < budget
    pub keeps : KeepsChanging run before
    pub wrote : WroteFront old new (rounds_text (before + 1))

  -- how rounds ended with text: with the first that changed nothing, with the last that was allowed, or with
  -- a write that failed
  abbrev pub EndsRounds : {Program Fault : Type 0} → Plan Program → (budget : ℕ) → Result (Option Finished) Fault → ClusterState Program Item State Shown → (old new : SinkState) → Type 0
  EndsRounds plan budget (Ok (Some finished)) cluster old new =
      HasFinished item_bytes shown_bytes run plan.program plan.way plan.shares budget cluster finished × WroteAll old new (rounds_text finished.rounds)
  EndsRounds plan budget (Ok None) cluster old new = (cluster.round ≡ budget) × KeepsChanging run budget × WroteAll old new (rounds_text budget)
  EndsRounds plan budget (Err fault) cluster old new = BreaksRounds budget old new
