use Rattle.std.proofs.Common.{◌≡◌, ◌∙◌, ◌+◌, ◌-◌, nat_lt, ap, subst, refl, arith}
use Rattle.graph_division.specs.Partition.{division_of}
use Rattle.io_edge.specs.Writing.{state_of, WroteAll}
use Rattle.cluster_laws.specs.Tally.{changed}
use Rattle.run_text.specs.Asks.{round_asks}
use Rattle.run_text.specs.Told.{told_by}
use Rattle.run_engine.specs.Running.{KeepsChanging}
use Rattle.run_engine.specs.Rounds.{rounds_text}
use Rattle.run_engine.proofs.Asking.{asked_one_more}
use Rattle.run_engine.proofs.Deciding.{keeps_next, takes_next}
use Rattle.run_engine.proofs.Going.{run_in, is_run}
use Rattle.run_engine.proofs.Told.{wrote_one_more, front_one_more, ends_broken}
use Rattle.run_engine.proofs.told_rounds.run_told_rounds.Goals as goal

pub returns-in_err-tell_round-clause-ends : goal.returns-in_err-tell_round-clause-ends
returns-in_err-tell_round-clause-ends g c =
    let now = c.loop-round.invariant in
    let come = c.run_next-changes.ensures in
    let next : c.run_next-changes.new.cluster.round ≡ c.loop-round._round + 1 = come.round ∙ ap (λ n. n + 1) now.round in
    let told : c.run_next-changes.new.cluster.round - 1 ≡ c.loop-round._round = omega arith in
    ends_broken g.P.Red.Item.Word.bytes_of g.P.Shown.Word.bytes_of (run_in g.P.Red.Reduction.reducer g.P.VertexProgram.steps g.P.Red.Item.Word.WIDTH g.P.Shown.Word.WIDTH g.plan) c.args.trace g.plan c.args.budget c.from_residual.result c.run_next-changes.new.cluster (state_of g.O.Sink c.args.sink.now) (state_of g.O.Sink c.tell_round.new.sink) c.from_residual.ensures.0
    (record {
      before = c.loop-round._round;
      early = c.loop-round-test.true;
      keeps = now.keeps;
      wrote = front_one_more c.args.trace (division_of g.plan.way g.plan.shares) (told_by g.P.Red.Item.Word.bytes_of g.P.Shown.Word.bytes_of (run_in g.P.Red.Reduction.reducer g.P.VertexProgram.steps g.P.Red.Item.Word.WIDTH g.P.Shown.Word.WIDTH g.plan)) c.loop-round._round (c.run_next-changes.new.cluster.round - 1) told now.wrote c.in_err-tell_round.ensures.front;
    })

pub returns-in_err-tell_round-clause-asked : goal.returns-in_err-tell_round-clause-asked
returns-in_err-tell_round-clause-asked g c =
    let now = c.loop-round.invariant in
    let come = c.run_next-changes.ensures in
    asked_one_more c.loop-round.cluster.round c.run_next-changes.new.cluster.round (round_asks (division_of g.plan.way g.plan.shares)) (g.K.Picker.asked c.args.picker.now) (g.K.Picker.asked c.loop-round.picker) (g.K.Picker.asked c.run_next-changes.new.picker) come.round now.asked come.asked

pub returns-then-not-changes-clause-ends : goal.returns-then-not-changes-clause-ends
returns-then-not-changes-clause-ends g c =
    let now = c.loop-round.invariant in
    let come = c.run_next-changes.ensures in
    let fact = is_run g.P.Red.Item.Word.bytes_of g.P.Shown.Word.bytes_of g.P.Red.Reduction.reducer g.P.VertexProgram.steps g.P.Red.Item.Word.WIDTH g.P.Shown.Word.WIDTH g.plan g.met.P.Red.Reduction.laws g.met.P.VertexProgram.laws c.requires.1.1.1.1.1.1.1.0 in
    let next : c.run_next-changes.new.cluster.round ≡ c.loop-round._round + 1 = come.round ∙ ap (λ n. n + 1) now.round in
    let told : c.run_next-changes.new.cluster.round - 1 ≡ c.loop-round._round = omega arith in
    let early = c.loop-round-test.true in
    let rounds : c.run_next-changes.new.finished.rounds ≡ c.loop-round._round + 1 = come.counted.has_run.rounds ∙ next in (
      record {
        has_run = come.counted.has_run;
        takes = takes_next (run_in g.P.Red.Reduction.reducer g.P.VertexProgram.steps g.P.Red.Item.Word.WIDTH g.P.Shown.Word.WIDTH g.plan)
            fact c.loop-round._round c.run_next-changes.new.cluster.round c.run_next-changes.result now.keeps (come.changes ∙ ap (λ n. nat_lt 0 (changed (run_in g.P.Red.Reduction.reducer g.P.VertexProgram.steps g.P.Red.Item.Word.WIDTH g.P.Shown.Word.WIDTH g.plan) n)) now.round) c.if-not-changes.true next;
        within = omega arith;
      },
      wrote_one_more c.args.trace (division_of g.plan.way g.plan.shares) (told_by g.P.Red.Item.Word.bytes_of g.P.Shown.Word.bytes_of (run_in g.P.Red.Reduction.reducer g.P.VertexProgram.steps g.P.Red.Item.Word.WIDTH g.P.Shown.Word.WIDTH g.plan)) c.loop-round._round (c.run_next-changes.new.cluster.round - 1) c.run_next-changes.new.finished.rounds told rounds now.wrote c.in_ok-tell_round.ensures.all,
    )

pub returns-then-not-changes-clause-asked : goal.returns-then-not-changes-clause-asked
returns-then-not-changes-clause-asked g c =
    let now = c.loop-round.invariant in
    let come = c.run_next-changes.ensures in
    asked_one_more c.loop-round.cluster.round c.run_next-changes.new.cluster.round (round_asks (division_of g.plan.way g.plan.shares)) (g.K.Picker.asked c.args.picker.now) (g.K.Picker.asked c.loop-round.picker) (g.K.Picker.asked c.run_next-changes.new.picker) come.round now.asked come.asked

pub loop-round-preserved : goal.loop-round-preserved
loop-round-preserved g c =
    let now = c.loop-round.invariant in
    let come = c.run_next-changes.ensures in
    let fact = is_run g.P.Red.Item.Word.bytes_of g.P.Shown.Word.bytes_of g.P.Red.Reduction.reducer g.P.VertexProgram.steps g.P.Red.Item.Word.WIDTH g.P.Shown.Word.WIDTH g.plan g.met.P.Red.Reduction.laws g.met.P.VertexProgram.laws c.requires.1.1.1.1.1.1.1.0 in
    let next : c.run_next-changes.new.cluster.round ≡ c.loop-round._round + 1 = come.round ∙ ap (λ n. n + 1) now.round in
    let told : c.run_next-changes.new.cluster.round - 1 ≡ c.loop-round._round = omega arith in
    record {
      counted = come.counted;
      round = next;
      keeps = keeps_next (run_in g.P.Red.Reduction.reducer g.P.VertexProgram.steps g.P.Red.Item.Word.WIDTH g.P.Shown.Word.WIDTH g.plan)
          fact c.loop-round._round (c.loop-round._round + 1) c.run_next-changes.result now.keeps (come.changes ∙ ap (λ n. nat_lt 0 (changed (run_in g.P.Red.Reduction.reducer g.P.VertexProgram.steps g.P.Red.Item.Word.WIDTH g.P.Shown.Word.WIDTH g.plan) n)) now.round) c.if-not-changes.false refl;
      wrote = wrote_one_more c.args.trace (division_of g.plan.way g.plan.shares) (told_by g.P.Red.Item.Word.bytes_of g.P.Shown.Word.bytes_of (run_in g.P.Red.Reduction.reducer g.P.VertexProgram.steps g.P.Red.Item.Word.WIDTH g.P.Shown.Word.WIDTH g.plan)) c.loop-round._round (c.run_next-changes.new.cluster.round - 1) (c.loop-round._round + 1) told refl now.wrote c.in_ok-tell_round.ensures.all;
      asked = asked_one_more c.loop-round.cluster.round c.run_next-changes.new.cluster.round (round_asks (division_of g.plan.way g.plan.shares)) (g.K.Picker.asked c.args.picker.now) (g.K.Picker.asked c.loop-round.picker) (g.K.Picker.asked c.run_next-changes.new.picker) come.round now.asked come.asked;
      begun = come.begun ∙ now.begun;
    }

pub returns-clause-ends : goal.returns-clause-ends
returns-clause-ends g c =
    let now = c.loop-round.invariant in
    let late = c.loop-round-test.false in
    let end = c.loop-round.auto._round-end in
    let all : c.loop-round._round ≡ c.args.budget = omega arith in (
      now.round ∙ all,
      subst (KeepsChanging (run_in g.P.Red.Reduction.reducer g.P.VertexProgram.steps g.P.Red.Item.Word.WIDTH g.P.Shown.Word.WIDTH g.plan)) all now.keeps,
      subst (λ n. WroteAll (state_of g.O.Sink c.args.sink.now) (state_of g.O.Sink c.loop-round.sink) (rounds_text g.P.Red.Item.Word.bytes_of g.P.Shown.Word.bytes_of (run_in g.P.Red.Reduction.reducer g.P.VertexProgram.steps g.P.Red.Item.Word.WIDTH g.P.Shown.Word.WIDTH g.plan) c.args.trace n)) all now.wrote,
    )
