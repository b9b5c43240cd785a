use Rattle.round_driver.proofs.turn.bring_events.Given as goal

abbrev pub ghost-run_events : goal.ghost-run_events
ghost-run_events g a = g.moment
