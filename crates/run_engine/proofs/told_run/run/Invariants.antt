use Rattle.std.specs.Prelude.{false, is_some}
use Rattle.run_engine.specs.Rounds.{plan_of}
use Rattle.run_engine.proofs.told_run.run.Given as goal

abbrev pub ghost-run_told_rounds : goal.ghost-run_told_rounds
ghost-run_told_rounds g a = plan_of a.cluster.now

abbrev pub ghost-write_end : goal.ghost-write_end
ghost-write_end g a = record { plan = plan_of a.cluster.now; asked = record { trace = false; report = is_some a.probe } }
