-- Which of a memo's lists a kind names.
use Rattle.std.specs.Prelude.{ℕ}
use Rattle.address_memo.specs.Memos.{Memos, Proxies, list_at}
use Rattle.address_memo.specs.declared.memo.ListKind.{ListKind}
use Rattle.address_memo.specs.declared.memo.ListKind.TheVariants.{ReduceTo, ReduceFrom, SpreadTo, SpreadFrom}

-- the list of a kind with a peer
abbrev pub list_for : Memos → ListKind → (peer : ℕ) → Proxies
list_for memo ReduceTo peer = list_at memo.reduce_to peer
list_for memo ReduceFrom peer = list_at memo.reduce_from peer
list_for memo SpreadTo peer = list_at memo.spread_to peer
list_for memo SpreadFrom peer = list_at memo.spread_from peer
