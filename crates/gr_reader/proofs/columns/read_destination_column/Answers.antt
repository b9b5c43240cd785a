use Rattle.gr_reader.proofs.EdgeLaws.{destination_fault-front}
use Rattle.gr_reader.proofs.columns.read_destination_column.Goals as goal

pub read_section-requires-clause-first : goal.read_section-requires-clause-first
read_section-requires-clause-first g c = destination_fault-front c.args.head.nodes 0
