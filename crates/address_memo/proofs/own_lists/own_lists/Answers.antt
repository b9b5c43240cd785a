use Rattle.std.proofs.Common.{◌∷◌, [], ◌++◌, ℕ, List, map, sym, ap, ◌∙◌, arith}
use Rattle.std.specs.List.{range_with_len}
use Rattle.std.proofs.lemmas.List.FromFn.{map-range_with_len_more}
use Rattle.address_memo.specs.Memos.{Proxies, proxies_of}
use Rattle.address_memo.specs.Legs.{own_of}
use Rattle.address_memo.proofs.own_lists.own_lists.Goals as goal

pub loop-peer-preserved : goal.loop-peer-preserved
loop-peer-preserved c =
    let f : ℕ → Proxies = λ peer. proxies_of c.args.graph.now (own_of c.args.leg c.args.way c.args.graph.now peer) in
    c.in_ok-push.ensures.items
    ∙ ap (λ (l : List Proxies). l ++ c.in_ok-own_list.field-0 ∷ []) c.loop-peer.invariant
    ∙ ap (λ (x : Proxies). map f (range_with_len 0 c.loop-peer.peer) ++ x ∷ []) c.in_ok-own_list.ensures.list
    ∙ sym (map-range_with_len_more f 0 c.loop-peer.peer c.loop-peer.peer (omega arith))
