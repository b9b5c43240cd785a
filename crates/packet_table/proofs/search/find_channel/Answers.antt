use Rattle.std.proofs.Common.{arith}
use Rattle.packet_table.proofs.Orders.{before_more, after_more, found_at}
use Rattle.packet_table.proofs.search.find_channel.Goals as goal

pub loop-low-preserved-in-Less : goal.loop-low-preserved-in-Less
loop-low-preserved-in-Less c = record {
  within = (omega arith, omega arith);
  before = before_more c.args.specs.now c.args.leg c.args.from c.args.to _ _ c.requires.rise (omega arith) c.in-Less.ensures;
  after = c.loop-low.invariant.after;
}

pub returns-in-Equal-clause-found : goal.returns-in-Equal-clause-found
returns-in-Equal-clause-found c = found_at c.args.specs.now c.args.leg c.args.from c.args.to _ _ (omega arith) c.in-Equal.ensures

pub loop-low-preserved : goal.loop-low-preserved
loop-low-preserved c = record {
  within = (omega arith, omega arith);
  before = c.loop-low.invariant.before;
  after = after_more c.args.specs.now c.args.leg c.args.from c.args.to _ _ c.requires.rise (omega arith) c.in-Greater.ensures;
}
