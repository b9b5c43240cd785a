-- What the text of a run says of the rounds that it takes.
use Rattle.std.proofs.Common.{◌≡◌, ℕ, ◌<◌, List, Option, Some, None, refl, sym, ◌∙◌, arith}
use Rattle.graph_model.specs.Graph.{Graph}
use Rattle.graph_model.specs.declared.edge.Way.{Way}
use Rattle.graph_division.specs.Shares.{Share}
use Rattle.run_text.specs.Told.{Told}
use Rattle.run_text.specs.Text.{Asked, IsRunText, ends, goes_on}
use Rattle.program_runs.specs.declared.program.Program.{Program}
use Rattle.program_runs.specs.declared.program.Program.TheVariants.{Bfs, Sssp, Cc, Kcore}
use Rattle.program_runs.specs.Programs.{TakesRounds, TellsRun}
use Rattle.command_words.specs.declared.job.RunWords.{RunWords}
use Rattle.gluon_top.specs.Runs.{status_at, asked_in, budget_in, shares_in}
use Rattle.gluon_top.specs.Runs as runs

-- a text that is told
record IsTold (IsCount : ℕ → Type 0) (asked : Asked) (way : Way) (shares : List Share) (budget : ℕ) (rounds : Option ℕ) (text : List ℕ) : Type 0 where
  told : Told
  is_text : IsRunText IsCount asked way shares told budget rounds text

-- the text of each program is one
is_told : (program : Program) (graph : Graph) (asked : Asked) (way : Way) (shares : List Share) (budget : ℕ) (rounds : Option ℕ) (text : List ℕ) → TellsRun program graph asked way shares budget rounds text → IsTold (TakesRounds program graph way) asked way shares budget rounds text
is_told (Bfs root) graph asked way shares budget rounds text tells = record { told = _; is_text = tells.is_text }
is_told (Sssp root) graph asked way shares budget rounds text tells = record { told = _; is_text = tells.is_text }
is_told Cc graph asked way shares budget rounds text tells = record { told = _; is_text = tells.is_text }
is_told (Kcore k) graph asked way shares budget rounds text tells = record { told = _; is_text = tells.is_text }

text_takes : {IsCount : ℕ → Type 0} {asked : Asked} {way : Way} {shares : List Share} {told : Told} {budget rounds : ℕ} {text : List ℕ} → IsRunText IsCount asked way shares told budget (Some rounds) text → IsCount rounds
text_takes (ends rounds takes within) = takes

text_above : {IsCount : ℕ → Type 0} {asked : Asked} {way : Way} {shares : List Share} {told : Told} {budget : ℕ} (rounds : Option ℕ) {text : List ℕ} → IsRunText IsCount asked way shares told budget rounds text → status_at rounds ≡ 5 → (count : ℕ) → IsCount count → budget < count
text_above (Some rounds) text five count takes = absurd (omega (arith, five))
text_above None (goes_on above) five count takes = above count takes

above_text : {IsCount : ℕ → Type 0} {asked : Asked} {way : Way} {shares : List Share} {told : Told} {budget : ℕ} (rounds : Option ℕ) {text : List ℕ} → IsRunText IsCount asked way shares told budget rounds text → ((count : ℕ) → IsCount count → budget < count) → status_at rounds ≡ 5
above_text (Some rounds) (ends _ takes within) above = let over = above rounds takes in absurd (omega arith)
above_text None text above = refl

module _ (program : Program) (run : RunWords) (graph : Graph) where
  -- a run that ends has taken its rounds
  pub ends_takes : (rounds : ℕ) (text : List ℕ) → TellsRun program graph (asked_in run) run.way (shares_in program run graph) (budget_in program run graph) (Some rounds) text → TakesRounds program graph run.way rounds
  ends_takes rounds text tells = text_takes (is_told program graph (asked_in run) run.way (shares_in program run graph) (budget_in program run graph) (Some rounds) text tells).is_text

  -- a text that goes on after its budget is of a run that takes more rounds
  pub goes_on_above : {status : ℕ} {text : List ℕ} → runs.IsRunText program run graph status text → status ≡ 5 → (count : ℕ) → TakesRounds program graph run.way count → budget_in program run graph < count
  goes_on_above means five =
      text_above means.rounds (is_told program graph (asked_in run) run.way (shares_in program run graph) (budget_in program run graph) means.rounds means.told means.tells).is_text (sym means.status_is ∙ five)

  -- and where all numbers of rounds are above the budget, it goes on
  pub above_goes_on : {status : ℕ} {text : List ℕ} → runs.IsRunText program run graph status text → ((count : ℕ) → TakesRounds program graph run.way count → budget_in program run graph < count) → status ≡ 5
  above_goes_on means above =
      means.status_is ∙ above_text means.rounds (is_told program graph (asked_in run) run.way (shares_in program run graph) (budget_in program run graph) means.rounds means.told means.tells).is_text above
