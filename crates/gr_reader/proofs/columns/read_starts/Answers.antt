use Rattle.std.proofs.Common.{arith}
use Rattle.graph_model.specs.Graph.{most_edges}
use Rattle.gr_reader.proofs.ColumnLaws.{entries_fit}
use Rattle.gr_reader.proofs.columns.read_starts.Goals as goal

pub starts_from-requires : goal.starts_from-requires
starts_from-requires g c =
    rw c.deref.ensures.value (entries_fit 0 most_edges c.in_ok-ends.ends.items c.in_ok-ends.ensures.rising (omega (arith, c.in_ok-ends.ensures.edges, c.requires.head.edges)))
