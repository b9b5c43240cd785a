use Rattle.round_driver.specs.Underway.{moment_of}
use Rattle.round_driver.proofs.turn.run_round.Given as goal

abbrev pub ghost-bring_events : goal.ghost-bring_events
ghost-bring_events g a = moment_of a.cluster.now
