-- A partition whose hosts agreed on their lists.
use Rattle.graph_division.specs.Partition.{IsPartition}
use Rattle.address_memo.specs.Memos.{Agree}
use Rattle.partition_text.specs.declared.agreed.Agreed.{Agreed}

-- the graphs are those of a partition, and the memos hold its lists
pub record IsAgreed (agreed : Agreed) : Type 0 where
  pub partition : IsPartition agreed.graphs.now
  pub agree : Agree agreed.way agreed.graphs.now agreed.memos.now
