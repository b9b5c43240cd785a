use Rattle.std.proofs.Common.{◌≡◌, ◌<◌, [], ◌∷◌, ◌++◌, length, get_or, refl, sym, ap, subst, ◌∙◌, arith, append_assoc}
use Rattle.std.specs.List.{All, AllByRecursion}
use Rattle.std.proofs.lemmas.List.{append-nil, length-set}
use Rattle.std.proofs.lemmas.List.Elements.{All-set}
use Rattle.arc_push.specs.Pushing.{IsLent}
use Rattle.arc_push.proofs.Followed.{Follows, followed_are_lent, along_lent, none_followed, one_followed}
use Rattle.arc_push.proofs.pushing.push_heads.Given
use Rattle.arc_push.proofs.pushing.push_heads.Goals as goal
use Rattle.arc_push.proofs.pushing.push_heads.Goals.{In-Some}

-- what is the same as a value is one
is_sent : {X : Type 0} (P : X → Type 0) {x y : X} → x ≡ y → P y → P x
is_sent P e h = subst P (sym e) h

-- the arcs that were followed and the next one are lent
lent_so_far : (g : Given.Over) (c : In-Some g) → AllByRecursion (IsLent (length c.args.items.now)) c.loop-head.yielded × IsLent (length c.args.items.now) (c.in-Some.head, c.in-Some.weight)
lent_so_far g c =
    followed_are_lent (length c.args.items.now) c.args.heads c.requires.are_lent c.loop-head.yielded (c.in-Some.head, c.in-Some.weight) c.next.new.self c.loop-head.head-iterator c.loop-head.invariant.order c.in-Some.ensures.steps

pub loop-head-init : goal.loop-head-init
loop-head-init g c = record {
  order = c.into_iter-head-iterator.ensures.into_iter_gives;
  items_fit = refl;
  news_fit = refl;
  values = c.requires.items_are;
  brings = λ start first before begins done.
      none_followed g.met.P.Red.Reduction.laws (g.met.P.VertexProgram.laws c.args.program.now) (length c.args.items.now) c.args.y c.requires.is_shown
      c.args.masters start first begins before c.args.items.now c.args.news.now done;
}

pub combine_into-requires-clause-has_item : goal.combine_into-requires-clause-has_item
combine_into-requires-clause-has_item g c =
    let lent = lent_so_far g (goal.at.combine_into-requires-clause-has_item g c).In-Some in
    omega (arith, lent.1.head_known, c.loop-head.invariant.items_fit)

pub combine_into-requires-clause-has_bit : goal.combine_into-requires-clause-has_bit
combine_into-requires-clause-has_bit g c =
    let lent = lent_so_far g (goal.at.combine_into-requires-clause-has_bit g c).In-Some in
    omega (arith, lent.1.head_known, c.loop-head.invariant.news_fit, c.requires.news_fit)

pub combine_into-requires-clause-is_item : goal.combine_into-requires-clause-is_item
combine_into-requires-clause-is_item g c =
    let lent = lent_so_far g (goal.at.combine_into-requires-clause-is_item g c).In-Some in
    is_sent g.P.Red.Item.Word.IsValue c.along-item.ensures
    (along_lent g.met.P.Red.Reduction.laws (g.met.P.VertexProgram.laws c.args.program.now) (length c.args.items.now) c.args.y c.requires.is_shown (c.in-Some.head, c.in-Some.weight) lent.1)

pub loop-head-preserved : goal.loop-head-preserved
loop-head-preserved g c =
    let head = c.in-Some.head in
    let item = c.along-item.result in
    let combine = g.P.Red.Reduction.reducer.combine in
    let laws = g.met.P.Red.Reduction.laws in
    let program = g.met.P.VertexProgram.laws c.args.program.now in
    let proxies = length c.args.items.now in
    let P : g.row.P-Red-Item.Denot → Type 0 = g.P.Red.Item.Word.IsValue in
    let lent = lent_so_far g (goal.at.loop-head-preserved g c).In-Some in
    let is_item : P c.along-item.result
    = is_sent g.P.Red.Item.Word.IsValue c.along-item.ensures (along_lent laws program proxies c.args.y c.requires.is_shown (c.in-Some.head, c.in-Some.weight) lent.1) in
    let within : c.in-Some.head < length c.loop-head.items = omega (arith, lent.1.head_known, c.loop-head.invariant.items_fit) in
    record {
      order = append_assoc c.loop-head.yielded ((c.in-Some.head, c.in-Some.weight) ∷ []) c.next.new.self
          ∙ sym (ap (λ zs. c.loop-head.yielded ++ zs) c.in-Some.ensures.steps) ∙ c.loop-head.invariant.order;
      items_fit = ap length (c.combine_into.ensures.items item) ∙ length-set c.loop-head.items head _ ∙ c.loop-head.invariant.items_fit;
      news_fit = ap length (c.combine_into.ensures.news item) ∙ length-set c.loop-head.news head _ ∙ c.loop-head.invariant.news_fit;
      values = subst (All P) (sym (c.combine_into.ensures.items item))
          (All-set P c.loop-head.items head (combine (get_or c.loop-head.items head item) item)
          (laws.combine_is_value (get_or c.loop-head.items head item) item (c.loop-head.invariant.values head item within) is_item) c.loop-head.invariant.values);
      brings = λ start first before begins done.
          one_followed laws program proxies c.args.y c.requires.is_shown c.args.masters start first begins before done.is_value
          c.loop-head.yielded c.in-Some.head c.in-Some.weight lent.0 lent.1 c.loop-head.items c.loop-head.news (c.loop-head.invariant.brings start first before begins done)
          c.along-item.result c.along-item.ensures c.combine_into.new.items c.combine_into.new.news
          c.combine_into.ensures.items c.combine_into.ensures.news;
    }

pub returns : goal.returns
returns g c =
    let all : c.loop-head.yielded ≡ c.args.heads
    = sym (append-nil c.loop-head.yielded) ∙ sym (ap (λ zs. c.loop-head.yielded ++ zs) c.in-None.ensures.steps.0) ∙ c.loop-head.invariant.order in
    record {
      brings = subst (λ arcs. Follows g.P.Red.Item.Word.IsValue g.P.Red.Reduction.reducer (g.P.VertexProgram.steps c.args.program.now) c.args.y c.args.masters (length c.args.items.now) arcs
          c.args.items.now c.args.news.now c.loop-head.items c.loop-head.news) all c.loop-head.invariant.brings;
      items_fit = c.loop-head.invariant.items_fit;
      news_fit = c.loop-head.invariant.news_fit;
      are_items = c.loop-head.invariant.values;
    }
