-- What words ask for.
use Rattle.std.specs.Prelude.{◌≡◌, ℕ, Bool, true, false, List, Option, Some, None, option_map}
use Rattle.command_words.specs.declared.job.Job.{Job}
use Rattle.command_words.specs.declared.job.Job.TheVariants.{Bfs, Sssp, Cc, Kcore, Owners, Proxies, Make, Selfrun}
use Rattle.command_words.specs.Jobs.{job_of}
use Rattle.program_runs.specs.declared.program.Program.TheVariants as program
use Rattle.gluon_top.specs.declared.task.Task.{Task}
use Rattle.gluon_top.specs.declared.task.Task.TheVariants as task

-- the task of a job
abbrev pub task_of_job : Job → Task
task_of_job (Bfs root run) = task.Run (program.Bfs root) run
task_of_job (Sssp root run) = task.Run (program.Sssp root) run
task_of_job (Cc run) = task.Run program.Cc run
task_of_job (Kcore k run) = task.Run (program.Kcore k) run
task_of_job (Owners hosts rules) = task.Owners hosts rules
task_of_job (Proxies hosts rules way) = task.Proxies hosts rules way
task_of_job (Make size number) = task.Make size number
task_of_job (Selfrun size number hosts rules order) = task.Selfrun size number hosts rules order

-- the task of words; where there is none, the words are refused
abbrev pub task_of : List (List ℕ) → Option Task
task_of words = option_map task_of_job (job_of words)

-- whether a task reads the input
abbrev pub reads_input : Option Task → Bool
reads_input (Some (task.Run program run)) = true
reads_input (Some (task.Make size number)) = false
reads_input (Some (task.Owners hosts rules)) = true
reads_input (Some (task.Proxies hosts rules way)) = true
reads_input (Some (task.Selfrun size number hosts rules order)) = false
reads_input None = false

-- whether a task runs a program over hosts, on the graph of the input
abbrev pub runs_program : Option Task → Bool
runs_program (Some (task.Run program run)) = true
runs_program (Some (task.Make size number)) = false
runs_program (Some (task.Owners hosts rules)) = false
runs_program (Some (task.Proxies hosts rules way)) = false
runs_program (Some (task.Selfrun size number hosts rules order)) = false
runs_program None = false

-- whether a task asks for an order of events: it runs a program, or tries all
abbrev pub has_order : Option Task → Bool
has_order (Some (task.Run program run)) = true
has_order (Some (task.Make size number)) = false
has_order (Some (task.Owners hosts rules)) = false
has_order (Some (task.Proxies hosts rules way)) = false
has_order (Some (task.Selfrun size number hosts rules order)) = true
has_order None = false

-- a task that is no run, or a run that is given no number of rounds
abbrev pub HasNoBudget : Option Task → Type 0
HasNoBudget (Some (task.Run program run)) = run.rounds ≡ None
HasNoBudget (Some (task.Make size number)) = Unit {0}
HasNoBudget (Some (task.Owners hosts rules)) = Unit {0}
HasNoBudget (Some (task.Proxies hosts rules way)) = Unit {0}
HasNoBudget (Some (task.Selfrun size number hosts rules order)) = Unit {0}
HasNoBudget None = Unit {0}

-- the number from which a picker last began: the order that a task asks for, where it asks for one
abbrev pub BeginsAs : Option Task → (old new : Option (Option ℕ)) → Type 0
BeginsAs (Some (task.Run program run)) old new = new ≡ option_map (λ _. Some run.order) old
BeginsAs (Some (task.Make size number)) old new = new ≡ old
BeginsAs (Some (task.Owners hosts rules)) old new = new ≡ old
BeginsAs (Some (task.Proxies hosts rules way)) old new = new ≡ old
BeginsAs (Some (task.Selfrun size number hosts rules order)) old new = new ≡ option_map (λ _. Some order) old
BeginsAs None old new = new ≡ old
