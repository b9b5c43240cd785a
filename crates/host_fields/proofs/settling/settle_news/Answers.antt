use Rattle.std.proofs.Common.{◌<◌, ℕ, not, length, get_or, sym, ap, ◌∙◌, inl, inr, arith}
use Rattle.std.proofs.lemmas.Bool.{cases_lt, true≢false}
use Rattle.std.proofs.lemmas.List.{length-set}
use Rattle.list_laws.specs.Members.{has_member, IsLeastMemberSince}
use Rattle.host_fields.proofs.Settled.{IsSettled}
use Rattle.host_fields.proofs.MastersSettle.{Fields, AreQuiet, AreLong, AreValues, SettlesOne, one_more_settled, then_values, all_settled}
use Rattle.host_fields.proofs.settling.settle_news.Goals as goal

pub loop-local-preserved : goal.loop-local-preserved
loop-local-preserved g c =
    let steps = g.P.VertexProgram.steps c.args.program.now in
    let reduction = g.met.P.Red.Reduction.laws in
    let laws = g.met.P.VertexProgram.laws c.args.program.now in
    let masters = c.args.masters in
    let shown = c.args.shown.now in
    let news = c.args.news.now in
    let eq = g.P.Shown.PartialEq.eq in
    let eq_is_same = g.met.P.Shown.Word.laws.eq_is_same in
    let local = c.in-Some.local in
    let was : Fields g.row.P-Red-Item.Denot g.row.P-State.Denot g.row.P-Shown.Denot = record { states = c.args.states.now; items = c.args.items.now; next = c.args.next.now; awake = c.args.awake_next.now } in
    let now : Fields g.row.P-Red-Item.Denot g.row.P-State.Denot g.row.P-Shown.Denot = record { states = c.loop-local.states; items = c.loop-local.items; next = c.loop-local.next; awake = c.loop-local.awake_next } in
    let then : Fields g.row.P-Red-Item.Denot g.row.P-State.Denot g.row.P-Shown.Denot = record { states = c.settle_one.new.states; items = c.settle_one.new.items; next = c.settle_one.new.next; awake = c.settle_one.new.awake_next } in
    let least : IsLeastMemberSince c.args.news.now c.loop-local.from c.in-Some.local = c.in-Some.ensures.next in
    let below : c.in-Some.local < c.args.masters = elim (cases_lt c.in-Some.local c.args.masters) [
      | inl h ↦ h
      | inr h ↦ absurd (true≢false (sym least.member ∙ c.requires.only_masters c.in-Some.local h))
    ] in
    let quiet : AreQuiet g.P.Red.Reduction.reducer (g.P.VertexProgram.steps c.args.program.now) c.args.masters c.args.shown.now c.args.news.now was
    = record { unmoved = c.requires.unmoved; states_show = c.requires.states_show; quiet = c.requires.quiet; asleep = c.requires.asleep } in
    let long : AreLong c.args.masters c.args.shown.now was = record { states = omega arith; items = omega arith; showing = omega arith; next = omega arith; awake = omega arith } in
    let now_long : AreLong c.args.masters c.args.shown.now now = record { states = omega arith; items = omega arith; showing = omega arith; next = omega arith; awake = omega arith } in
    let was_values : AreValues g.P.Red.Item.Word.IsValue g.P.Shown.Word.IsValue g.P.VertexProgram.IsState was = record { states = c.requires.states_are; items = c.requires.items_are; next = c.requires.next_are } in
    let one : SettlesOne g.P.Shown.PartialEq.eq g.P.Red.Reduction.reducer (g.P.VertexProgram.steps c.args.program.now) c.in-Some.local c.args.shown.now now then
    = record { state = c.settle_one.ensures.state; sum = c.settle_one.ensures.sum; shows = c.settle_one.ensures.shows; wakes = c.settle_one.ensures.wakes } in
    record {
      inside = omega arith;
      settled = one_more_settled reduction laws masters shown news eq eq_is_same was now then c.loop-local.from local quiet c.requires.shown_are was_values long now_long c.loop-local.invariant.settled least below one;
      values = then_values reduction laws masters shown news eq eq_is_same was now then c.loop-local.from local quiet c.requires.shown_are was_values long now_long c.loop-local.invariant.settled least below one c.loop-local.invariant.values;
      awake_length = ap length (c.settle_one.ensures.wakes (steps.shown (steps.start 0)))
          ∙ length-set c.loop-local.awake_next local (not (eq (get_or shown local (steps.shown (steps.start 0))) (get_or c.settle_one.new.next local (steps.shown (steps.start 0)))))
          ∙ c.loop-local.invariant.awake_length;
    }

settled_each : (g : Rattle.host_fields.proofs.settling.settle_news.Given.Over) (c : goal.After-clear_all g) (k : ℕ) (s : g.row.P-State.Denot) (d : g.row.P-Red-Item.Denot) (y : g.row.P-Shown.Denot) → k < c.args.masters
    → IsSettled g.P.Red.Reduction.reducer (g.P.VertexProgram.steps c.args.program.now) (get_or c.args.states.now k s) (get_or c.loop-local.states k s)
    (get_or c.args.items.now k d) (get_or c.loop-local.items k d) (get_or c.args.shown.now k y) (get_or c.loop-local.next k y) (has_member c.loop-local.awake_next k)
settled_each g c =
    let was : Fields g.row.P-Red-Item.Denot g.row.P-State.Denot g.row.P-Shown.Denot = record { states = c.args.states.now; items = c.args.items.now; next = c.args.next.now; awake = c.args.awake_next.now } in
    let now : Fields g.row.P-Red-Item.Denot g.row.P-State.Denot g.row.P-Shown.Denot = record { states = c.loop-local.states; items = c.loop-local.items; next = c.loop-local.next; awake = c.loop-local.awake_next } in
    all_settled g.met.P.Red.Reduction.laws (g.met.P.VertexProgram.laws c.args.program.now) c.args.masters c.args.shown.now c.args.news.now was now c.loop-local.from
    (record { unmoved = c.requires.unmoved; states_show = c.requires.states_show; quiet = c.requires.quiet; asleep = c.requires.asleep })
    (record { states = omega arith; items = omega arith; showing = omega arith; next = omega arith; awake = omega arith })
    c.requires.shown_are c.loop-local.invariant.settled c.in_default.ensures.next

pub returns-clause-settles : goal.returns-clause-settles
returns-clause-settles g c l s d h = (settled_each g c l s d ((g.P.VertexProgram.steps c.args.program.now).shown s) h).settles

pub returns-clause-sums : goal.returns-clause-sums
returns-clause-sums g c l d h =
    let s = (g.P.VertexProgram.steps c.args.program.now).start 0 in
    (settled_each g c l s d ((g.P.VertexProgram.steps c.args.program.now).shown s) h).sum

pub returns-clause-shows : goal.returns-clause-shows
returns-clause-shows g c l s y h = (settled_each g c l s g.P.Red.Reduction.reducer.identity y h).shown

pub returns-clause-wakes : goal.returns-clause-wakes
returns-clause-wakes g c l y h = (settled_each g c l ((g.P.VertexProgram.steps c.args.program.now).start 0) g.P.Red.Reduction.reducer.identity y h).wakes

pub returns-clause-still : goal.returns-clause-still
returns-clause-still g c l s h = (settled_each g c l s g.P.Red.Reduction.reducer.identity ((g.P.VertexProgram.steps c.args.program.now).shown s) h).still
