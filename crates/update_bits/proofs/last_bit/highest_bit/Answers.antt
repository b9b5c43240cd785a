use Rattle.std.proofs.Common.{arith}
use Rattle.update_bits.proofs.LastBits.{highest}
use Rattle.update_bits.proofs.last_bit.highest_bit.Goals as goal

pub returns : goal.returns
returns c = highest c.args.number c.requires (omega arith)
