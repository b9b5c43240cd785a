use Rattle.std.proofs.Common.{ap, ◌∙◌}
use Rattle.address_memo.specs.Memos.{Memos, with_accepted}
use Rattle.address_memo.specs.MemoFields.{memos_of}
use Rattle.address_memo.specs.Told.{Told}
use Rattle.address_memo.proofs.Accepting.{accepted_is}
use Rattle.address_memo.proofs.memo.Memo.accept.Goals as goal

pub returns : goal.returns
returns c =
    let memo : Memos = memos_of c.self.inside in
    accepted_is memo c.self.inside.told.items c.args.from c.new.result
    ∙ ap (λ (lists : Told). with_accepted memo c.args.from lists.reduce lists.spread) c.new.ensures
    ∙ ap (λ (now : Memos). with_accepted now c.args.from c.args.lists.reduce c.args.lists.spread) c.self.view_is
