-- A graph that is divided among hosts which agreed on their lists.
use Rattle.std.specs.Prelude.{ℕ, List}
use Rattle.graph_division.specs.Partition.{IsPartition}
use Rattle.address_memo.specs.Memos.{Agree}
use Rattle.partition_text.specs.Text.{partition_text}
use Rattle.gluon_top.specs.declared.proxies.Divided.{Divided}

-- the graphs are those of a partition, and the memos hold its lists
pub record IsDivided (divided : Divided) : Type 0 where
  pub partition : IsPartition divided.graphs.items
  pub agree : Agree divided.way divided.graphs.items divided.memos.items

-- its text
abbrev pub divided_text : Divided → List ℕ
divided_text divided = partition_text divided.way divided.graphs.items
