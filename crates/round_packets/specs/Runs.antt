-- A program that runs on a divided graph, and what each host's arcs contribute to a round of the whole
-- graph.
use Rattle.std.specs.Prelude.{ℕ}
use Rattle.reduce_laws.specs.ReductionLaws.{Reducer, ReductionLaws}
use Rattle.reduce_laws.specs.ProgramLaws.{Steps, ProgramLaws}
use Rattle.lone_rounds.specs.Moments.{Moment, brought, moment_after}
use Rattle.graph_division.specs.Division.{Division, IsDivision, whole}

-- a program's parts, the graph that it runs on, and how many bytes its values take
pub record Run (Item State Shown : Type 0) : Type 0 where
  pub reducer : Reducer Item
  pub steps : Steps Item State Shown
  pub division : Division
  pub item_size : ℕ
  pub shown_size : ℕ

-- what holds of every run, where these are the items, the shown values and the states
pub record IsRun {Item State Shown : Type 0} (IsItem : Item → Type 0) (IsShown : Shown → Type 0) (IsState : State → Type 0) (run : Run Item State Shown) : Type 0 where
  pub divided : IsDivision run.division
  pub reduction : ReductionLaws IsItem run.reducer
  pub program : ProgramLaws IsItem IsShown IsState run.reducer run.steps

-- the whole graph's moment after so many rounds
abbrev pub moment_of : {Item State Shown : Type 0} → Run Item State Shown → ℕ → Moment State
moment_of run rounds = moment_after run.reducer run.steps (whole run.division) rounds

-- the state of a vertex after so many rounds
abbrev pub state_of : {Item State Shown : Type 0} → Run Item State Shown → ℕ → ℕ → State
state_of run rounds v = (moment_of run rounds).state v

-- what a vertex shows after so many rounds
abbrev pub shows : {Item State Shown : Type 0} → Run Item State Shown → ℕ → ℕ → Shown
shows run rounds v = run.steps.shown (state_of run rounds v)

-- what a host's own arcs bring to a vertex in the round after so many
abbrev pub contribution : {Item State Shown : Type 0} → Run Item State Shown → (rounds host v : ℕ) → Item
contribution run rounds host v = brought run.reducer run.steps (run.division.share host) (moment_of run rounds) v
