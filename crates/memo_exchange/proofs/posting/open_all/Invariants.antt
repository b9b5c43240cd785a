use Rattle.std.proofs.Common.{◌≡◌, ◌++◌, map, take}
use Rattle.std.specs.List.{flat_map}
use Rattle.address_memo.specs.Memos.{opened}
use Rattle.memo_exchange.specs.Letters.{letters_of}
use Rattle.memo_exchange.proofs.posting.open_all.Given as goal

-- the memos of the hosts so far are opened, and their letters are posted
abbrev pub invariant-loop-graph : goal.invariant-loop-graph
invariant-loop-graph l = record {
  memos : l.memos.items ≡ map (opened l.way) (take l.graph-index l.graphs);
  mail : l.mail.items ≡ l.fn.mail.items ++ flat_map (letters_of l.way) (take l.graph-index l.graphs);
}
