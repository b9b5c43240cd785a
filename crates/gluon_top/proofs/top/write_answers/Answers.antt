use Rattle.std.proofs.Common.{ℕ, List, OnOk, OnErr, ap, sym, subst, ◌∙◌}
use Rattle.io_edge.specs.Bytes.{Gains, GainsPrefix}
use Rattle.partition_text.specs.Text.{partition_text}
use Rattle.gluon_top.specs.Answers.{text_of}
use Rattle.gluon_top.proofs.top.write_answers.Goals as goal

pub returns-in-Divided-clause-whole : goal.returns-in-Divided-clause-whole
returns-in-Divided-clause-whole g c =
    let same = ap (partition_text c.in-Divided.divided.way) c.deref.ensures.value ∙ ap text_of (sym c.in-Divided.is) in
    subst (λ (text : List ℕ). OnOk c.write_lines-in-Divided.result (Gains (g.K.Sink.held c.args.sink.now) (g.K.Sink.held c.write_lines-in-Divided.new.sink) text))
    same c.write_lines-in-Divided.ensures.whole

pub returns-in-Divided-clause-prefix : goal.returns-in-Divided-clause-prefix
returns-in-Divided-clause-prefix g c =
    let same = ap (partition_text c.in-Divided.divided.way) c.deref.ensures.value ∙ ap text_of (sym c.in-Divided.is) in
    subst (λ (text : List ℕ). OnErr c.write_lines-in-Divided.result (GainsPrefix (g.K.Sink.held c.args.sink.now) (g.K.Sink.held c.write_lines-in-Divided.new.sink) text))
    same c.write_lines-in-Divided.ensures.prefix
