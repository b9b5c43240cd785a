use Rattle.std.proofs.Common.{◌≡◌, ◌∙◌, ◌+◌, ◌-◌, ℕ, length, sym, ap, subst, arith}
use Rattle.std.specs.List.{flat_map, range_with_len}
use Rattle.graph_division.specs.Partition.{division_of}
use Rattle.io_edge.specs.Writing.{state_of, WroteBy}
use Rattle.packet_table.specs.Table.{Table}
use Rattle.run_text.specs.Lines.{channel_line}
use Rattle.run_text.specs.Told.{told_by}
use Rattle.run_text.specs.Text.{if_asked, round_lines}
use Rattle.run_engine.proofs.Going.{run_in}
use Rattle.run_engine.proofs.Lines.{lines_are, channels_of_plan}
use Rattle.run_engine.proofs.told_rounds.tell_round.Goals as goal

pub returns-then-trace : goal.returns-then-trace
returns-then-trace g c =
    let asks = c.requires.1.1.1.1.1.1 in
    let some = asks.1.1.0 in
    let round = c.round.ensures in
    let before : ℕ = c.args.cluster.now.round - 1 in
    let next : c.round.result ≡ before + 1 = omega arith in
    let lines = lines_are g.P.Red.Item.Word.WIDTH g.P.Shown.Word.WIDTH (division_of g.plan.way g.plan.shares) (told_by g.P.Red.Item.Word.bytes_of g.P.Shown.Word.bytes_of (run_in g.P.Red.Reduction.reducer g.P.VertexProgram.steps g.P.Red.Item.Word.WIDTH g.P.Shown.Word.WIDTH g.plan)) before c.args.cluster.now.table
    (channels_of_plan g.P.Red.Item.Word.WIDTH g.P.Shown.Word.WIDTH c.args.cluster.now g.plan.way g.plan.shares c.channels.ensures.facts asks.0 asks.1.0) asks.1.1.1 c.round.result next in
    subst (λ text. WroteBy c.write_round.result (state_of g.O.Sink c.args.sink.now) (state_of g.O.Sink c.write_round.new.sink) text)
    (ap (λ (t : Table). flat_map (channel_line c.round.result t) (range_with_len 0 (length t.specs))) c.channels.ensures.channels
    ∙ lines
    ∙ ap (λ b. if_asked b (round_lines (division_of g.plan.way g.plan.shares) (told_by g.P.Red.Item.Word.bytes_of g.P.Shown.Word.bytes_of (run_in g.P.Red.Reduction.reducer g.P.VertexProgram.steps g.P.Red.Item.Word.WIDTH g.P.Shown.Word.WIDTH g.plan)) before)) (sym c.if-trace.true))
    c.write_round.ensures.written
