use Rattle.round_driver.proofs.tests.sixty_four_hosts_run_a_round.Goals as goal

pub run_round-tally-requires-clause-stands : goal.run_round-tally-requires-clause-stands
run_round-tally-requires-clause-stands g c = c.in_ok-first.ensures.stands

pub run_round-requires-clause-stands : goal.run_round-requires-clause-stands
run_round-requires-clause-stands g c = c.in_ok-last.ensures.stands
