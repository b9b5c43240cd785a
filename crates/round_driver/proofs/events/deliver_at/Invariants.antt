use Rattle.round_driver.proofs.events.deliver_at.Given as goal

abbrev pub ghost-give_reduce : goal.ghost-give_reduce
ghost-give_reduce g a = g.moment

abbrev pub ghost-give_broadcast : goal.ghost-give_broadcast
ghost-give_broadcast g a = g.moment
