-- The text of what a task came to.
use Rattle.std.specs.Prelude.{◌≡◌, ℕ, List, length}
use Rattle.gr_writer.specs.File.{file_of}
use Rattle.job_text.specs.Owners.{plan_text}
use Rattle.job_text.specs.Trials.{trial_text}
use Rattle.gluon_top.specs.Divided.{IsDivided, divided_text}
use Rattle.gluon_top.specs.declared.answers.Answers.{Answers}
use Rattle.gluon_top.specs.declared.answers.Answers.TheVariants.{Made, Owned, Divided, Tried}

-- the file of the graph, masters and owners, proxies and lists, or what programs find
abbrev pub text_of : Answers → List ℕ
text_of (Made graph) = file_of 4 graph
text_of (Owned graph plan) = plan_text plan graph
text_of (Divided divided) = divided_text divided
text_of (Tried trial) = trial_text trial

-- a plan is of as many nodes as its graph has, and a divided graph is one whose hosts agreed
abbrev pub AreFew : Answers → Type 0
AreFew (Made graph) = Unit {0}
AreFew (Owned graph plan) = length plan.masters ≡ graph.nodes
AreFew (Divided divided) = IsDivided divided
AreFew (Tried trial) = Unit {0}
