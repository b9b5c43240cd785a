-- What a run of a program over hosts comes to.
use Rattle.std.specs.Prelude.{◌≡◌, ℕ, List, [], ◌++◌, Option, Some, None, IsSomeAnd, option_map}
use Rattle.graph_model.specs.Graph.{Graph}
use Rattle.graph_division.specs.Partition.{division_of}
use Rattle.graph_division.specs.Shares.{Share}
use Rattle.share_plan.specs.Owners.{shares_of}
use Rattle.command_words.specs.declared.job.RunWords.{RunWords}
use Rattle.memo_exchange.specs.Asks.{asked_after}
use Rattle.run_text.specs.Asks.{asks}
use Rattle.run_text.specs.Text.{Asked, budget_of}
use Rattle.program_runs.specs.declared.program.Program.{Program}
use Rattle.program_runs.specs.declared.last_run.LastRun.{LastRun}
use Rattle.program_runs.specs.Programs.{TakesRounds, TellsRun}
use Rattle.program_runs.specs.LastRuns.{round_of, IsLastRun}
use Rattle.job_text.specs.Fault.{spent_line}

-- what words ask for besides the answers
abbrev pub asked_in : RunWords → Asked
asked_in run = record { trace = run.trace; report = run.report }

-- the status of a run that ends after so many rounds, or goes on after all that it may have
abbrev pub status_at : Option ℕ → ℕ
status_at (Some rounds) = 0
status_at None = 5

-- behind what a run tells stands the line of its budget, if it goes on after that
abbrev pub end_line : (budget : ℕ) → Option ℕ → List ℕ
end_line budget (Some rounds) = []
end_line budget None = spent_line budget

module _ (program : Program) (run : RunWords) (graph : Graph) where
  -- what each host holds of the graph
  abbrev pub shares_in : List Share
  shares_in = shares_of run.rules run.hosts graph

  -- the most rounds that the run may have
  abbrev pub budget_in : ℕ
  budget_in = budget_of run.rounds graph.nodes

  -- the status and the text of the run
  pub record IsRunText (status : ℕ) (text : List ℕ) : Type 0 where
    -- after how many rounds it ends, if it does within its budget
    pub rounds : Option ℕ
    pub told : List ℕ
    pub tells : TellsRun program graph (asked_in run) run.way shares_in budget_in rounds told
    pub status_is : status ≡ status_at rounds
    pub text_is : text ≡ told ++ end_line budget_in rounds

  -- the picks that so many rounds ask for
  abbrev pub AsksFor : (rounds : ℕ) → (old new : Option ℕ) → Type 0
  AsksFor rounds old new = new ≡ option_map (asked_after (asks (division_of run.way shares_in) rounds)) old

  -- the cluster of the run after its last round, which is the last that the graph calls for
  pub record IsLast (last : LastRun) (old new : Option ℕ) : Type 0 where
    pub is_last : IsLastRun program run.way shares_in last
    pub takes : TakesRounds program graph run.way (round_of last)
    pub asked : AsksFor (round_of last) old new

  -- The run went by hosts: where it is done its cluster is handed back, and it and a run whose budget is spent
  -- asked for as many picks as their rounds do.
  pub record GoesByHosts (status : ℕ) (last : Option LastRun) (old new : Option ℕ) : Type 0 where
    pub done : status ≡ 0 → IsSomeAnd last (λ cluster. IsLast cluster old new)
    pub spent : status ≡ 5 → AsksFor budget_in old new
