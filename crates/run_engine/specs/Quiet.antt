-- How a run without text ends.
use Rattle.std.specs.Prelude.{◌≡◌, ℕ, Option, Some, None, Result, Ok, Err}
use Rattle.round_packets.specs.Runs.{Run}
use Rattle.run_engine.specs.declared.fault.QuietFault.{QuietFault}
use Rattle.run_engine.specs.declared.fault.QuietFault.TheVariants.{Spent, Memory}
use Rattle.run_engine.specs.Running.{KeepsChanging}

-- the rounds that were run when it ended so
abbrev pub quiet_rounds_at : {X : Type 0} → (rounds_of : X → ℕ) → Result X QuietFault → Option ℕ
quiet_rounds_at rounds_of (Ok ended) = Some (rounds_of ended)
quiet_rounds_at rounds_of (Err (Spent budget)) = Some budget
quiet_rounds_at rounds_of (Err Memory) = None

-- where the budget is spent, it is this budget, and each round of it changed some shown value
abbrev pub EndsQuietly : {X Item State Shown : Type 0} → Run Item State Shown → (budget : ℕ) → Result X QuietFault → Type 0
EndsQuietly run budget (Ok ended) = Unit {0}
EndsQuietly run budget (Err (Spent spent)) = (spent ≡ budget) × KeepsChanging run budget
EndsQuietly run budget (Err Memory) = Unit {0}
