use Rattle.round_driver.proofs.turn.take_turn.Given as goal

abbrev pub ghost-compute_at : goal.ghost-compute_at
ghost-compute_at g a = g.moment

abbrev pub ghost-spread_at : goal.ghost-spread_at
ghost-spread_at g a = g.moment

abbrev pub ghost-deliver_at : goal.ghost-deliver_at
ghost-deliver_at g a = g.moment
