use Rattle.std.proofs.Common.{sym, subst}
use Rattle.packet_table.specs.Order.{Rise}
use Rattle.packet_table.proofs.channels.Channels.find.Goals as goal

pub find_channel-requires-clause-rise : goal.find_channel-requires-clause-rise
find_channel-requires-clause-rise c = subst Rise (sym c.deref.ensures.value) c.self.invariant.rise
