use Rattle.std.proofs.Common.{◌≡◌, map}
use Rattle.std.specs.List.{range_with_len}
use Rattle.address_memo.specs.Memos.{proxies_of}
use Rattle.address_memo.specs.Legs.{own_of}
use Rattle.address_memo.proofs.own_lists.own_lists.Given as goal

-- the lists with the peers so far
abbrev pub invariant-loop-peer : goal.invariant-loop-peer
invariant-loop-peer l = l.lists.items ≡ map (λ peer. proxies_of l.graph (own_of l.leg l.way l.graph peer)) (range_with_len 0 l.peer)
