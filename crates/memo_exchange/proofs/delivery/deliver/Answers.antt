use Rattle.std.proofs.Common.{Some, slice_get, slice_set, sym, ap, ◌∙◌, arith}
use Rattle.std.proofs.lemmas.Option.{slice_get_within, slice_get-get_or}
use Rattle.graph_division.specs.Shares.{Share}
use Rattle.address_memo.specs.Memos.{Memos, with_accepted}
use Rattle.memo_exchange.proofs.delivery.deliver.Goals as goal

pub returns-in-Ok : goal.returns-in-Ok
returns-in-Ok c =
    let place = c.to-place.ensures in
    let host_within = slice_get_within c.args.graphs.now c.args.letter.now.to c.requires.share c.requires.share_at in
    let memo_within = slice_get_within c.args.memos.now c.args.letter.now.to c.requires.memo c.requires.memo_at in
    record {
      share = c.index-graphs-place.result;
      share_at = ap (slice_get c.args.graphs.now) (sym place) ∙ slice_get-get_or c.args.graphs.now c.to-place.result c.index-graphs-place.result (omega arith) ∙ ap (λ (s : Share). Some s) (sym c.index-graphs-place.is);
      memo = c.index-memos-place.result;
      memo_at = ap (slice_get c.args.memos.now) (sym place) ∙ slice_get-get_or c.args.memos.now c.to-place.result c.index-memos-place.result (omega arith) ∙ ap (λ (m : Memos). Some m) (sym c.index-memos-place.is);
      reduce = c.in-Ok.lists.reduce;
      spread = c.in-Ok.lists.spread;
      told = c.in-Ok.ensures.reduce;
      wanted = c.in-Ok.ensures.spread;
      says = sym c.bytes.ensures ∙ c.in-Ok.ensures.payload;
      accepted =
          ap (λ n. slice_set c.args.memos.now n c.accept.new.self) place
          ∙ ap (slice_set c.args.memos.now c.args.letter.now.to)
          (c.accept.ensures
          ∙ ap (λ (m : Memos). with_accepted m c.from.result c.in-Ok.lists.reduce c.in-Ok.lists.spread) (sym c.index-memos-place.is)
          ∙ ap (λ n. with_accepted c.index-memos-place.result n c.in-Ok.lists.reduce c.in-Ok.lists.spread) c.from.ensures);
    }
