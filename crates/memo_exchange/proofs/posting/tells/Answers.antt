use Rattle.std.proofs.Common.{ap, ◌∙◌}
use Rattle.address_memo.specs.Memos.{Proxies}
use Rattle.memo_exchange.proofs.News.{first_is_news, second_is_news}
use Rattle.memo_exchange.proofs.posting.tells.Goals as goal

pub returns-then-not-is_empty : goal.returns-then-not-is_empty
returns-then-not-is_empty c =
    first_is_news c.args.way c.args.graph.now c.args.memo.now c.args.peer c.requires.memo c.requires.peer
    c.is_empty.result c.globals.result.now c.is_empty.ensures (c.globals.ensures.globals ∙ ap (λ (list : Proxies). list.globals) c.list.ensures.list) c.if-not-is_empty.true

pub returns-else-not-is_empty : goal.returns-else-not-is_empty
returns-else-not-is_empty c =
    second_is_news c.args.way c.args.graph.now c.args.memo.now c.args.peer c.requires.memo c.requires.peer
    c.is_empty.result c.is_empty-else-not-is_empty.result c.globals.result.now c.globals-else-not-is_empty.result.now
    c.is_empty.ensures (c.globals.ensures.globals ∙ ap (λ (list : Proxies). list.globals) c.list.ensures.list) c.if-not-is_empty.false
    c.is_empty-else-not-is_empty.ensures (c.globals-else-not-is_empty.ensures.globals ∙ ap (λ (list : Proxies). list.globals) c.list-else-not-is_empty.ensures.list)
