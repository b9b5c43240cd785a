use Rattle.std.proofs.Common.{◌≡◌, ◌∙◌, List, length, Some, None, Ok, Err, sym, ap, subst, arith}
use Rattle.std.specs.Prelude.{is_some}
use Rattle.graph_division.specs.Partition.{division_of, graph_of}
use Rattle.graph_division.specs.Shares.{Share}
use Rattle.io_edge.specs.Writing.{state_of, WroteAll, WroteFront}
use Rattle.round_driver.specs.ClusterState.{division_in}
use Rattle.run_text.specs.Text.{budget_of}
use Rattle.run_engine.specs.Outcome.{asked_by}
use Rattle.run_engine.specs.Rounds.{plan_of, nothing_yet}
use Rattle.run_engine.specs.Ending.{probed}
use Rattle.run_engine.proofs.Asking.{asked_all}
use Rattle.run_engine.proofs.Going.{few_shares, same_division, same_plan}
use Rattle.run_engine.proofs.Whole.{report_told, probe_told, plan_there, run_as_told, ends_as, end_as, whole_written, end_broken, rounds_broken, all_spent}
use Rattle.run_engine.proofs.told_run.run.Goals as goal

pub probe_mirrors-probe-requires : goal.probe_mirrors-probe-requires
probe_mirrors-probe-requires g c =
    let few = few_shares c.args.graphs.items c.requires.partition in
    let same = ap (λ (shares : List Share). length shares) c.deref-2.ensures.value in
    omega arith

pub write_end-requires : goal.write_end-requires
write_end-requires g c = λ κs outlives.
    let budget : c.most_rounds-budget.result ≡ budget_of c.args.job.rounds (graph_of c.args.graphs.items).nodes = c.most_rounds-budget.ensures.budget ∙ ap (λ (shares : List Share). budget_of c.args.job.rounds (graph_of shares).nodes) c.deref.ensures.value in
    let ended = ends_as g.P.Red.Item.Word.bytes_of g.P.Shown.Word.bytes_of g.P.Red.Reduction.reducer g.P.VertexProgram.steps g.P.Red.Item.Word.WIDTH g.P.Shown.Word.WIDTH (record { program = c.args.program; way = c.args.job.way; shares = c.args.graphs.items }) (plan_of c.in-Ok.cluster) c.args.job.trace c.most_rounds-budget.result (budget_of c.args.job.rounds (graph_of c.args.graphs.items).nodes) c.run_told_rounds.result (Ok (Some c.in-Ok-Some.finished))
    c.run_told_rounds.new.cluster (state_of g.O.Sink c.args.sink.now) (state_of g.O.Sink c.run_told_rounds.new.sink)
    (same_plan g.P.Red.Item.Word.bytes_of g.P.Shown.Word.bytes_of g.P.Red.Reduction.reducer g.P.VertexProgram.steps g.P.Red.Item.Word.WIDTH g.P.Shown.Word.WIDTH (record { program = c.args.program; way = c.args.job.way; shares = c.args.graphs.items }) c.in-Ok.cluster nothing_yet c.in-Ok.ensures.counted) budget (c.in-Ok-Some.is ∙ ap Ok c.in-Ok-Some.field-0-is) c.run_told_rounds.ensures.ends in (
      outlives.0,
      (
        outlives.1.0,
        (
          outlives.1.1.0,
          (
            outlives.1.1.1.0,
            (
              outlives.1.1.1.1.0,
              (
                outlives.1.1.1.1.1,
                (
                  run_as_told g.P.Red.Item.Word.bytes_of g.P.Shown.Word.bytes_of g.P.Red.Reduction.reducer g.P.VertexProgram.steps g.P.Red.Item.Word.WIDTH g.P.Shown.Word.WIDTH (record { program = c.args.program; way = c.args.job.way; shares = c.args.graphs.items }) c.run_told_rounds.new.cluster c.in-Ok-Some.finished ended.0.has_run,
                  probe_told c.args.job.report c.args.graphs.items (plan_of c.run_told_rounds.new.cluster).shares c.probe_mirrors-probe.result (c.probe_mirrors-probe.ensures ∙ ap (probed c.args.job.report) c.deref-2.ensures.value) ended.0.has_run.same_shares,
                ),
              ),
            ),
          ),
        ),
      ),
    )

pub returns-in-Ok-write_end-clause-written : goal.returns-in-Ok-write_end-clause-written
returns-in-Ok-write_end-clause-written g c =
    let budget : c.most_rounds-budget.result ≡ budget_of c.args.job.rounds (graph_of c.args.graphs.items).nodes = c.most_rounds-budget.ensures.budget ∙ ap (λ (shares : List Share). budget_of c.args.job.rounds (graph_of shares).nodes) c.deref.ensures.value in
    let ended = ends_as g.P.Red.Item.Word.bytes_of g.P.Shown.Word.bytes_of g.P.Red.Reduction.reducer g.P.VertexProgram.steps g.P.Red.Item.Word.WIDTH g.P.Shown.Word.WIDTH (record { program = c.args.program; way = c.args.job.way; shares = c.args.graphs.items }) (plan_of c.in-Ok.cluster) c.args.job.trace c.most_rounds-budget.result (budget_of c.args.job.rounds (graph_of c.args.graphs.items).nodes) c.run_told_rounds.result (Ok (Some c.in-Ok-Some.finished))
    c.run_told_rounds.new.cluster (state_of g.O.Sink c.args.sink.now) (state_of g.O.Sink c.run_told_rounds.new.sink)
    (same_plan g.P.Red.Item.Word.bytes_of g.P.Shown.Word.bytes_of g.P.Red.Reduction.reducer g.P.VertexProgram.steps g.P.Red.Item.Word.WIDTH g.P.Shown.Word.WIDTH (record { program = c.args.program; way = c.args.job.way; shares = c.args.graphs.items }) c.in-Ok.cluster nothing_yet c.in-Ok.ensures.counted) budget (c.in-Ok-Some.is ∙ ap Ok c.in-Ok-Some.field-0-is) c.run_told_rounds.ensures.ends in
    let text = end_as g.P.Red.Item.Word.bytes_of g.P.Shown.Word.bytes_of g.P.Red.Reduction.reducer g.P.VertexProgram.steps g.P.Red.Item.Word.WIDTH g.P.Shown.Word.WIDTH (record { program = c.args.program; way = c.args.job.way; shares = c.args.graphs.items }) (asked_by c.args.job) (plan_of c.run_told_rounds.new.cluster) (is_some c.probe_mirrors-probe.result) c.in-Ok-Some.finished.rounds
    (plan_there g.P.Red.Item.Word.bytes_of g.P.Shown.Word.bytes_of g.P.Red.Reduction.reducer g.P.VertexProgram.steps g.P.Red.Item.Word.WIDTH g.P.Shown.Word.WIDTH (record { program = c.args.program; way = c.args.job.way; shares = c.args.graphs.items }) c.run_told_rounds.new.cluster c.in-Ok-Some.finished ended.0.has_run)
    (report_told c.args.job.report c.args.graphs.items c.probe_mirrors-probe.result (c.probe_mirrors-probe.ensures ∙ ap (probed c.args.job.report) c.deref-2.ensures.value)) in
    whole_written g.P.Red.Item.Word.bytes_of g.P.Shown.Word.bytes_of g.P.Red.Reduction.reducer g.P.VertexProgram.steps g.P.Red.Item.Word.WIDTH g.P.Shown.Word.WIDTH (record { program = c.args.program; way = c.args.job.way; shares = c.args.graphs.items }) g.met.P.Red.Reduction.laws g.met.P.VertexProgram.laws c.requires.partition (asked_by c.args.job) (budget_of c.args.job.rounds (graph_of c.args.graphs.items).nodes) c.run_told_rounds.new.cluster c.in-Ok-Some.finished (state_of g.O.Sink c.args.sink.now) (state_of g.O.Sink c.run_told_rounds.new.sink) (state_of g.O.Sink c.write_end.new.sink) ended.0 ended.1
    (subst (λ text. WroteAll (state_of g.O.Sink c.run_told_rounds.new.sink) (state_of g.O.Sink c.write_end.new.sink) text) text c.in-Ok-write_end.ensures.all)

pub returns-in-Ok-write_end-clause-asked : goal.returns-in-Ok-write_end-clause-asked
returns-in-Ok-write_end-clause-asked g c =
    let budget : c.most_rounds-budget.result ≡ budget_of c.args.job.rounds (graph_of c.args.graphs.items).nodes = c.most_rounds-budget.ensures.budget ∙ ap (λ (shares : List Share). budget_of c.args.job.rounds (graph_of shares).nodes) c.deref.ensures.value in
    let ended = ends_as g.P.Red.Item.Word.bytes_of g.P.Shown.Word.bytes_of g.P.Red.Reduction.reducer g.P.VertexProgram.steps g.P.Red.Item.Word.WIDTH g.P.Shown.Word.WIDTH (record { program = c.args.program; way = c.args.job.way; shares = c.args.graphs.items }) (plan_of c.in-Ok.cluster) c.args.job.trace c.most_rounds-budget.result (budget_of c.args.job.rounds (graph_of c.args.graphs.items).nodes) c.run_told_rounds.result (Ok (Some c.in-Ok-Some.finished))
    c.run_told_rounds.new.cluster (state_of g.O.Sink c.args.sink.now) (state_of g.O.Sink c.run_told_rounds.new.sink)
    (same_plan g.P.Red.Item.Word.bytes_of g.P.Shown.Word.bytes_of g.P.Red.Reduction.reducer g.P.VertexProgram.steps g.P.Red.Item.Word.WIDTH g.P.Shown.Word.WIDTH (record { program = c.args.program; way = c.args.job.way; shares = c.args.graphs.items }) c.in-Ok.cluster nothing_yet c.in-Ok.ensures.counted) budget (c.in-Ok-Some.is ∙ ap Ok c.in-Ok-Some.field-0-is) c.run_told_rounds.ensures.ends in
    asked_all (division_of c.args.job.way c.args.graphs.items) (division_in c.in-Ok.cluster) c.in-Ok-Some.finished.rounds c.run_told_rounds.new.cluster.round
    (g.K.Picker.asked c.args.picker.now) (g.K.Picker.asked c.prepare.new.picker) (g.K.Picker.asked c.run_told_rounds.new.picker)
    (same_division g.P.Red.Item.Word.bytes_of g.P.Shown.Word.bytes_of g.P.Red.Reduction.reducer g.P.VertexProgram.steps g.P.Red.Item.Word.WIDTH g.P.Shown.Word.WIDTH (record { program = c.args.program; way = c.args.job.way; shares = c.args.graphs.items }) c.in-Ok.cluster nothing_yet c.in-Ok.ensures.counted)
    (sym ended.0.has_run.rounds) c.in-Ok.ensures.asked c.run_told_rounds.ensures.asked

pub returns-in-Err-write_end-clause-written : goal.returns-in-Err-write_end-clause-written
returns-in-Err-write_end-clause-written g c =
    let budget : c.most_rounds-budget.result ≡ budget_of c.args.job.rounds (graph_of c.args.graphs.items).nodes = c.most_rounds-budget.ensures.budget ∙ ap (λ (shares : List Share). budget_of c.args.job.rounds (graph_of shares).nodes) c.deref.ensures.value in
    let ended = ends_as g.P.Red.Item.Word.bytes_of g.P.Shown.Word.bytes_of g.P.Red.Reduction.reducer g.P.VertexProgram.steps g.P.Red.Item.Word.WIDTH g.P.Shown.Word.WIDTH (record { program = c.args.program; way = c.args.job.way; shares = c.args.graphs.items }) (plan_of c.in-Ok.cluster) c.args.job.trace c.most_rounds-budget.result (budget_of c.args.job.rounds (graph_of c.args.graphs.items).nodes) c.run_told_rounds.result (Ok (Some c.in-Ok-Some.finished))
    c.run_told_rounds.new.cluster (state_of g.O.Sink c.args.sink.now) (state_of g.O.Sink c.run_told_rounds.new.sink)
    (same_plan g.P.Red.Item.Word.bytes_of g.P.Shown.Word.bytes_of g.P.Red.Reduction.reducer g.P.VertexProgram.steps g.P.Red.Item.Word.WIDTH g.P.Shown.Word.WIDTH (record { program = c.args.program; way = c.args.job.way; shares = c.args.graphs.items }) c.in-Ok.cluster nothing_yet c.in-Ok.ensures.counted) budget (c.in-Ok-Some.is ∙ ap Ok c.in-Ok-Some.field-0-is) c.run_told_rounds.ensures.ends in
    let text = end_as g.P.Red.Item.Word.bytes_of g.P.Shown.Word.bytes_of g.P.Red.Reduction.reducer g.P.VertexProgram.steps g.P.Red.Item.Word.WIDTH g.P.Shown.Word.WIDTH (record { program = c.args.program; way = c.args.job.way; shares = c.args.graphs.items }) (asked_by c.args.job) (plan_of c.run_told_rounds.new.cluster) (is_some c.probe_mirrors-probe.result) c.in-Ok-Some.finished.rounds
    (plan_there g.P.Red.Item.Word.bytes_of g.P.Shown.Word.bytes_of g.P.Red.Reduction.reducer g.P.VertexProgram.steps g.P.Red.Item.Word.WIDTH g.P.Shown.Word.WIDTH (record { program = c.args.program; way = c.args.job.way; shares = c.args.graphs.items }) c.run_told_rounds.new.cluster c.in-Ok-Some.finished ended.0.has_run)
    (report_told c.args.job.report c.args.graphs.items c.probe_mirrors-probe.result (c.probe_mirrors-probe.ensures ∙ ap (probed c.args.job.report) c.deref-2.ensures.value)) in
    end_broken g.P.Red.Item.Word.bytes_of g.P.Shown.Word.bytes_of g.P.Red.Reduction.reducer g.P.VertexProgram.steps g.P.Red.Item.Word.WIDTH g.P.Shown.Word.WIDTH (record { program = c.args.program; way = c.args.job.way; shares = c.args.graphs.items }) g.met.P.Red.Reduction.laws g.met.P.VertexProgram.laws c.requires.partition (asked_by c.args.job) (budget_of c.args.job.rounds (graph_of c.args.graphs.items).nodes) c.run_told_rounds.new.cluster c.in-Ok-Some.finished (state_of g.O.Sink c.args.sink.now) (state_of g.O.Sink c.run_told_rounds.new.sink) (state_of g.O.Sink c.write_end.new.sink) ended.0 ended.1
    (subst (λ text. WroteFront (state_of g.O.Sink c.run_told_rounds.new.sink) (state_of g.O.Sink c.write_end.new.sink) text) text c.in-Err-write_end.ensures.front)

pub returns-in-Ok-None-clause-written : goal.returns-in-Ok-None-clause-written
returns-in-Ok-None-clause-written g c =
    let budget : c.most_rounds-budget.result ≡ budget_of c.args.job.rounds (graph_of c.args.graphs.items).nodes = c.most_rounds-budget.ensures.budget ∙ ap (λ (shares : List Share). budget_of c.args.job.rounds (graph_of shares).nodes) c.deref.ensures.value in
    let ended = ends_as g.P.Red.Item.Word.bytes_of g.P.Shown.Word.bytes_of g.P.Red.Reduction.reducer g.P.VertexProgram.steps g.P.Red.Item.Word.WIDTH g.P.Shown.Word.WIDTH (record { program = c.args.program; way = c.args.job.way; shares = c.args.graphs.items }) (plan_of c.in-Ok.cluster) c.args.job.trace c.most_rounds-budget.result (budget_of c.args.job.rounds (graph_of c.args.graphs.items).nodes) c.run_told_rounds.result (Ok None)
    c.run_told_rounds.new.cluster (state_of g.O.Sink c.args.sink.now) (state_of g.O.Sink c.run_told_rounds.new.sink)
    (same_plan g.P.Red.Item.Word.bytes_of g.P.Shown.Word.bytes_of g.P.Red.Reduction.reducer g.P.VertexProgram.steps g.P.Red.Item.Word.WIDTH g.P.Shown.Word.WIDTH (record { program = c.args.program; way = c.args.job.way; shares = c.args.graphs.items }) c.in-Ok.cluster nothing_yet c.in-Ok.ensures.counted) budget (c.in-Ok-None.is ∙ ap Ok c.in-Ok-None.field-0-is) c.run_told_rounds.ensures.ends in
    (budget, ended.1, all_spent g.P.Red.Item.Word.bytes_of g.P.Shown.Word.bytes_of g.P.Red.Reduction.reducer g.P.VertexProgram.steps g.P.Red.Item.Word.WIDTH g.P.Shown.Word.WIDTH (record { program = c.args.program; way = c.args.job.way; shares = c.args.graphs.items }) g.met.P.Red.Reduction.laws g.met.P.VertexProgram.laws c.requires.partition (asked_by c.args.job) (budget_of c.args.job.rounds (graph_of c.args.graphs.items).nodes) (state_of g.O.Sink c.args.sink.now) (state_of g.O.Sink c.run_told_rounds.new.sink) ended.1 ended.2)

pub returns-in-Ok-None-clause-asked : goal.returns-in-Ok-None-clause-asked
returns-in-Ok-None-clause-asked g c =
    let budget : c.most_rounds-budget.result ≡ budget_of c.args.job.rounds (graph_of c.args.graphs.items).nodes = c.most_rounds-budget.ensures.budget ∙ ap (λ (shares : List Share). budget_of c.args.job.rounds (graph_of shares).nodes) c.deref.ensures.value in
    let ended = ends_as g.P.Red.Item.Word.bytes_of g.P.Shown.Word.bytes_of g.P.Red.Reduction.reducer g.P.VertexProgram.steps g.P.Red.Item.Word.WIDTH g.P.Shown.Word.WIDTH (record { program = c.args.program; way = c.args.job.way; shares = c.args.graphs.items }) (plan_of c.in-Ok.cluster) c.args.job.trace c.most_rounds-budget.result (budget_of c.args.job.rounds (graph_of c.args.graphs.items).nodes) c.run_told_rounds.result (Ok None)
    c.run_told_rounds.new.cluster (state_of g.O.Sink c.args.sink.now) (state_of g.O.Sink c.run_told_rounds.new.sink)
    (same_plan g.P.Red.Item.Word.bytes_of g.P.Shown.Word.bytes_of g.P.Red.Reduction.reducer g.P.VertexProgram.steps g.P.Red.Item.Word.WIDTH g.P.Shown.Word.WIDTH (record { program = c.args.program; way = c.args.job.way; shares = c.args.graphs.items }) c.in-Ok.cluster nothing_yet c.in-Ok.ensures.counted) budget (c.in-Ok-None.is ∙ ap Ok c.in-Ok-None.field-0-is) c.run_told_rounds.ensures.ends in
    asked_all (division_of c.args.job.way c.args.graphs.items) (division_in c.in-Ok.cluster) c.most_rounds-budget.result c.run_told_rounds.new.cluster.round
    (g.K.Picker.asked c.args.picker.now) (g.K.Picker.asked c.prepare.new.picker) (g.K.Picker.asked c.run_told_rounds.new.picker)
    (same_division g.P.Red.Item.Word.bytes_of g.P.Shown.Word.bytes_of g.P.Red.Reduction.reducer g.P.VertexProgram.steps g.P.Red.Item.Word.WIDTH g.P.Shown.Word.WIDTH (record { program = c.args.program; way = c.args.job.way; shares = c.args.graphs.items }) c.in-Ok.cluster nothing_yet c.in-Ok.ensures.counted)
    (ended.0 ∙ sym budget) c.in-Ok.ensures.asked c.run_told_rounds.ensures.asked

pub returns-in-Err-clause-written : goal.returns-in-Err-clause-written
returns-in-Err-clause-written g c =
    let budget : c.most_rounds-budget.result ≡ budget_of c.args.job.rounds (graph_of c.args.graphs.items).nodes = c.most_rounds-budget.ensures.budget ∙ ap (λ (shares : List Share). budget_of c.args.job.rounds (graph_of shares).nodes) c.deref.ensures.value in
    let ended = ends_as g.P.Red.Item.Word.bytes_of g.P.Shown.Word.bytes_of g.P.Red.Reduction.reducer g.P.VertexProgram.steps g.P.Red.Item.Word.WIDTH g.P.Shown.Word.WIDTH (record { program = c.args.program; way = c.args.job.way; shares = c.args.graphs.items }) (plan_of c.in-Ok.cluster) c.args.job.trace c.most_rounds-budget.result (budget_of c.args.job.rounds (graph_of c.args.graphs.items).nodes) c.run_told_rounds.result (Err c.in-Err.field-0)
    c.run_told_rounds.new.cluster (state_of g.O.Sink c.args.sink.now) (state_of g.O.Sink c.run_told_rounds.new.sink)
    (same_plan g.P.Red.Item.Word.bytes_of g.P.Shown.Word.bytes_of g.P.Red.Reduction.reducer g.P.VertexProgram.steps g.P.Red.Item.Word.WIDTH g.P.Shown.Word.WIDTH (record { program = c.args.program; way = c.args.job.way; shares = c.args.graphs.items }) c.in-Ok.cluster nothing_yet c.in-Ok.ensures.counted) budget c.in-Err.is c.run_told_rounds.ensures.ends in
    rounds_broken g.P.Red.Item.Word.bytes_of g.P.Shown.Word.bytes_of g.P.Red.Reduction.reducer g.P.VertexProgram.steps g.P.Red.Item.Word.WIDTH g.P.Shown.Word.WIDTH (record { program = c.args.program; way = c.args.job.way; shares = c.args.graphs.items }) g.met.P.Red.Reduction.laws g.met.P.VertexProgram.laws c.requires.partition (asked_by c.args.job) (budget_of c.args.job.rounds (graph_of c.args.graphs.items).nodes) (state_of g.O.Sink c.args.sink.now) (state_of g.O.Sink c.run_told_rounds.new.sink) ended
