-- The text of lines.
use Rattle.std.specs.Prelude.{◌≡◌, ℕ, List, length}
use Rattle.graph_division.specs.Partition.{IsPartition}
use Rattle.address_memo.specs.Memos.{Agree}
use Rattle.partition_text.specs.Text.{partition_text}
use Rattle.job_text.specs.Fault.{fault_line}
use Rattle.job_text.specs.Owners.{plan_text}
use Rattle.job_text.specs.Trials.{trial_text}
use Rattle.job_text.specs.declared.lines.Lines.{Lines}
use Rattle.job_text.specs.declared.lines.Lines.TheVariants as lines

-- masters and owners, proxies and lists, what programs find, or the line of the fault
abbrev pub lines_text : Lines → List ℕ
lines_text (lines.Owners graph plan) = plan_text plan.now graph.now
lines_text (lines.Divided graphs memos way) = partition_text way graphs.now
lines_text (lines.Trial trial) = trial_text trial
lines_text (lines.Fault fault) = fault_line fault

-- a plan is of as many nodes as its graph has, and hosts that divide a graph agreed on their lists
abbrev pub AreFewLines : Lines → Type 0
AreFewLines (lines.Owners graph plan) = length plan.now.masters ≡ graph.now.nodes
AreFewLines (lines.Divided graphs memos way) = IsPartition graphs.now × Agree way graphs.now memos.now
AreFewLines (lines.Trial trial) = Unit {0}
AreFewLines (lines.Fault fault) = Unit {0}
