use Rattle.std.proofs.Common.{◌∙◌, ◌+◌, ◌≡◌, nat_lt, sym, ap, subst, refl, arith}
use Rattle.graph_division.specs.Partition.{division_of}
use Rattle.cluster_laws.specs.Tally.{changed}
use Rattle.run_text.specs.Asks.{round_asks}
use Rattle.run_engine.specs.Running.{KeepsChanging}
use Rattle.run_engine.proofs.Asking.{asked_no_round, asked_one_more}
use Rattle.run_engine.proofs.Deciding.{keeps_none, keeps_next, takes_next}
use Rattle.run_engine.proofs.Going.{run_in, is_run}
use Rattle.run_engine.proofs.rounds.run_quiet_rounds.Goals as goal

pub run_next-requires : goal.run_next-requires
run_next-requires g c = λ κs outlives.
    let now = c.loop-round.invariant in
    let round = now.round in
    let early = c.loop-round-test.true in
    let few = c.requires.1.1.1.1.1.1.1.0 in
    (outlives.0, (outlives.1.0, (outlives.1.1.0, (outlives.1.1.1.0, (outlives.1.1.1.1.0, (outlives.1.1.1.1.1, (c.requires.1.1.1.1.1.1.0, (omega arith, now.counted))))))))

pub loop-round-init : goal.loop-round-init
loop-round-init g c =
    let counted = c.requires.1.1.1.1.1.1.1.1 in
    let fact = is_run g.P.Red.Item.Word.bytes_of g.P.Shown.Word.bytes_of g.P.Red.Reduction.reducer g.P.VertexProgram.steps g.P.Red.Item.Word.WIDTH g.P.Shown.Word.WIDTH g.plan g.met.P.Red.Reduction.laws g.met.P.VertexProgram.laws c.requires.1.1.1.1.1.1.0 in
    record {
      counted = counted;
      round = sym counted.has_run.rounds;
      keeps = keeps_none (run_in g.P.Red.Reduction.reducer g.P.VertexProgram.steps g.P.Red.Item.Word.WIDTH g.P.Shown.Word.WIDTH g.plan) fact;
      asked = asked_no_round c.args.cluster.now.round (round_asks (division_of g.plan.way g.plan.shares)) (g.K.Picker.asked c.args.picker.now) (sym counted.has_run.rounds);
      begun = refl;
    }

pub loop-round-preserved : goal.loop-round-preserved
loop-round-preserved g c =
    let now = c.loop-round.invariant in
    let come = c.run_next.ensures in
    let fact = is_run g.P.Red.Item.Word.bytes_of g.P.Shown.Word.bytes_of g.P.Red.Reduction.reducer g.P.VertexProgram.steps g.P.Red.Item.Word.WIDTH g.P.Shown.Word.WIDTH g.plan g.met.P.Red.Reduction.laws g.met.P.VertexProgram.laws c.requires.1.1.1.1.1.1.0 in
    record {
      counted = come.counted;
      round = come.round ∙ ap (λ n. n + 1) now.round;
      keeps = keeps_next (run_in g.P.Red.Reduction.reducer g.P.VertexProgram.steps g.P.Red.Item.Word.WIDTH g.P.Shown.Word.WIDTH g.plan)
          fact c.loop-round._round (c.loop-round._round + 1) c.run_next.result now.keeps (come.changes ∙ ap (λ n. nat_lt 0 (changed (run_in g.P.Red.Reduction.reducer g.P.VertexProgram.steps g.P.Red.Item.Word.WIDTH g.P.Shown.Word.WIDTH g.plan) n)) now.round) c.if-not-run_next.false refl;
      asked = asked_one_more c.loop-round.cluster.round c.run_next.new.cluster.round (round_asks (division_of g.plan.way g.plan.shares)) (g.K.Picker.asked c.args.picker.now) (g.K.Picker.asked c.loop-round.picker) (g.K.Picker.asked c.run_next.new.picker) come.round now.asked come.asked;
      begun = come.begun ∙ now.begun;
    }

pub returns-then-not-run_next-clause-ends : goal.returns-then-not-run_next-clause-ends
returns-then-not-run_next-clause-ends g c =
    let now = c.loop-round.invariant in
    let come = c.run_next.ensures in
    let fact = is_run g.P.Red.Item.Word.bytes_of g.P.Shown.Word.bytes_of g.P.Red.Reduction.reducer g.P.VertexProgram.steps g.P.Red.Item.Word.WIDTH g.P.Shown.Word.WIDTH g.plan g.met.P.Red.Reduction.laws g.met.P.VertexProgram.laws c.requires.1.1.1.1.1.1.0 in
    let round = come.round ∙ ap (λ n. n + 1) now.round in
    let early = c.loop-round-test.true in
    record {
      has_run = come.counted.has_run;
      takes = takes_next (run_in g.P.Red.Reduction.reducer g.P.VertexProgram.steps g.P.Red.Item.Word.WIDTH g.P.Shown.Word.WIDTH g.plan)
          fact c.loop-round._round c.run_next.new.cluster.round c.run_next.result now.keeps (come.changes ∙ ap (λ n. nat_lt 0 (changed (run_in g.P.Red.Reduction.reducer g.P.VertexProgram.steps g.P.Red.Item.Word.WIDTH g.P.Shown.Word.WIDTH g.plan) n)) now.round) c.if-not-run_next.true round;
      within = omega arith;
    }

pub returns-then-not-run_next-clause-asked : goal.returns-then-not-run_next-clause-asked
returns-then-not-run_next-clause-asked g c =
    let now = c.loop-round.invariant in
    let come = c.run_next.ensures in
    asked_one_more c.loop-round.cluster.round c.run_next.new.cluster.round (round_asks (division_of g.plan.way g.plan.shares)) (g.K.Picker.asked c.args.picker.now) (g.K.Picker.asked c.loop-round.picker) (g.K.Picker.asked c.run_next.new.picker) come.round now.asked come.asked

pub returns-then-not-run_next-clause-begun : goal.returns-then-not-run_next-clause-begun
returns-then-not-run_next-clause-begun g c = c.run_next.ensures.begun ∙ c.loop-round.invariant.begun

pub returns-clause-ends : goal.returns-clause-ends
returns-clause-ends g c =
    let now = c.loop-round.invariant in
    let late = c.loop-round-test.false in
    let end = c.loop-round.auto._round-end in
    let all : c.loop-round._round ≡ c.args.budget = omega arith in
    (now.round ∙ all, subst (KeepsChanging (run_in g.P.Red.Reduction.reducer g.P.VertexProgram.steps g.P.Red.Item.Word.WIDTH g.P.Shown.Word.WIDTH g.plan)) all now.keeps)

pub returns-clause-asked : goal.returns-clause-asked
returns-clause-asked g c = c.loop-round.invariant.asked

pub returns-clause-begun : goal.returns-clause-begun
returns-clause-begun g c = c.loop-round.invariant.begun
