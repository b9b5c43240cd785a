use Rattle.run_engine.specs.Rounds.{plan_of}
use Rattle.run_engine.proofs.quiet_run.run_quiet.Given as goal

abbrev pub ghost-run_quiet_rounds : goal.ghost-run_quiet_rounds
ghost-run_quiet_rounds g a = plan_of a.cluster.now
