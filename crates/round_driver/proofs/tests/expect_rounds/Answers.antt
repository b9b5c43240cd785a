use Rattle.round_driver.proofs.tests.expect_rounds.Goals as goal

pub expect_round-requires-clause-stands : goal.expect_round-requires-clause-stands
expect_round-requires-clause-stands g c = c.in_ok-cluster.ensures.stands
