use Rattle.std.proofs.Common.{◌∙◌, ◌++◌, sym, ap, subst}
use Rattle.answer_writer.specs.declared.report.Report.{Report}
use Rattle.answer_writer.specs.Report.{report_lines}
use Rattle.host_state.specs.Serving.{run_of}
use Rattle.io_edge.specs.Writing.{state_of, WroteAll, WroteFront, WroteBy}
use Rattle.io_edge.proofs.Writings.{WroteBy-++, WroteBy-err, WroteFront-more}
use Rattle.round_driver.specs.ClusterState.{division_in}
use Rattle.run_text.specs.Told.{told_by}
use Rattle.run_text.specs.Text.{if_asked, answer_lines, report_of}
use Rattle.run_engine.proofs.Going.{run_in}
use Rattle.run_engine.proofs.EndTexts.{may_tell, answers_are, end_with_report, end_with_answers}
use Rattle.run_engine.proofs.ending.write_end.Goals as goal

pub write_answers-requires : goal.write_answers-requires
write_answers-requires g c = may_tell g.P.Red.Item.Word.bytes_of g.P.Shown.Word.bytes_of g.P.Red.Reduction.reducer g.P.VertexProgram.steps g.P.Red.Item.Word.WIDTH g.P.Shown.Word.WIDTH g.telling.plan c.args.cluster.now c.args.finished c.requires.1.1.1.1.1.1.0

pub returns-in_err-write_answers : goal.returns-in_err-write_answers
returns-in_err-write_answers g c =
    let told = told_by g.P.Red.Item.Word.bytes_of g.P.Shown.Word.bytes_of (run_in g.P.Red.Reduction.reducer g.P.VertexProgram.steps g.P.Red.Item.Word.WIDTH g.P.Shown.Word.WIDTH g.telling.plan) in
    WroteBy-err c.from_residual.ensures.0
    (WroteFront-more (if_asked g.telling.asked.report (report_lines (report_of g.telling.asked g.telling.plan.way g.telling.plan.shares told c.args.finished.rounds)))
    (subst (λ text. WroteFront (state_of g.O.Sink c.args.sink.now) (state_of g.O.Sink c.write_answers.new.sink) text)
    (answers_are g.P.Red.Item.Word.bytes_of g.P.Shown.Word.bytes_of g.P.Red.Reduction.reducer g.P.VertexProgram.steps g.P.Red.Item.Word.WIDTH g.P.Shown.Word.WIDTH g.telling.plan c.args.cluster.now c.args.finished c.requires.1.1.1.1.1.1.0) c.in_err-write_answers.ensures.front))

pub returns-in-Some : goal.returns-in-Some
returns-in-Some g c =
    let answers = answer_lines (division_in c.args.cluster.now) (told_by g.P.Red.Item.Word.bytes_of g.P.Shown.Word.bytes_of (run_of g.P.Red.Reduction.reducer (g.P.VertexProgram.steps c.args.cluster.now.program) g.P.Red.Item.Word.WIDTH g.P.Shown.Word.WIDTH (division_in c.args.cluster.now))) c.args.cluster.now.round in
    subst (λ text. WroteBy c.write_report.result (state_of g.O.Sink c.args.sink.now) (state_of g.O.Sink c.write_report.new.sink) text)
    (ap (λ (r : Report). answers ++ report_lines r) c.report_of.ensures
    ∙ end_with_report g.P.Red.Item.Word.bytes_of g.P.Shown.Word.bytes_of g.P.Red.Reduction.reducer g.P.VertexProgram.steps g.P.Red.Item.Word.WIDTH g.P.Shown.Word.WIDTH g.telling.plan c.args.cluster.now c.args.finished c.requires.1.1.1.1.1.1.0 g.telling.asked c.in-Some.probe (sym c.in-Some.is ∙ c.requires.1.1.1.1.1.1.1))
    (WroteBy-++ c.in_ok-write_answers.ensures.all c.write_report.ensures.written)

pub returns-in-None : goal.returns-in-None
returns-in-None g c = record {
  all = subst (λ text. WroteAll (state_of g.O.Sink c.args.sink.now) (state_of g.O.Sink c.write_answers.new.sink) text)
      (end_with_answers g.P.Red.Item.Word.bytes_of g.P.Shown.Word.bytes_of g.P.Red.Reduction.reducer g.P.VertexProgram.steps g.P.Red.Item.Word.WIDTH g.P.Shown.Word.WIDTH g.telling.plan c.args.cluster.now c.args.finished c.requires.1.1.1.1.1.1.0 g.telling.asked (sym c.in-None.is ∙ c.requires.1.1.1.1.1.1.1))
      c.in_ok-write_answers.ensures.all;
  front = tt;
}
