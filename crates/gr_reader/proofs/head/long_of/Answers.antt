use Rattle.gr_reader.proofs.Chunks.{number_at-8}
use Rattle.gr_reader.proofs.head.long_of.Goals as goal

pub returns : goal.returns
returns c = number_at-8 c.args.bytes.now c.in-Some.front.now c.args.place c.from_le_bytes.result c.requires c.in-Some.ensures.cases.0 c.from_le_bytes.ensures
