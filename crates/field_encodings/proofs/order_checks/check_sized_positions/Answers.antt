use Rattle.std.proofs.Common.{◌≡◌, ◌≤◌, ◌-◌, length, ◌∙◌, arith, None}
use Rattle.list_laws.specs.LittleEndian.{numbers}
use Rattle.field_encodings.proofs.Faults.{position_walk, positions_walked}
use Rattle.field_encodings.specs.Lengths.{greatest_of}
use Rattle.field_encodings.proofs.FirstFault.{position_past, position_falls, positions_more, positions_end, read_in_turn}
use Rattle.list_laws.proofs.WholeNumbers.{length-numbers}
use Rattle.field_encodings.proofs.order_checks.check_sized_positions.Goals as goal

pub returns-then-position-count : goal.returns-then-position-count
returns-then-position-count g c =
    let turn = read_in_turn g.row.SIZE c.args.left c.args.text.now c.loop-i.i c.number_at-position.result c.loop-i-test.true c.number_at-position.ensures in
    positions_walked c.args.count (numbers g.row.SIZE c.args.left c.args.text.now) ∙ position_past c.args.count (numbers g.row.SIZE c.args.left c.args.text.now) c.loop-i.i c.loop-i.low c.loop-i.invariant.sound c.loop-i.invariant.is_low
    c.number_at-position.result turn.0 turn.1 c.if-position-count.true

pub returns-then-position-low : goal.returns-then-position-low
returns-then-position-low g c =
    let turn = read_in_turn g.row.SIZE c.args.left c.args.text.now c.loop-i.i c.number_at-position.result c.loop-i-test.true c.number_at-position.ensures in
    positions_walked c.args.count (numbers g.row.SIZE c.args.left c.args.text.now) ∙ position_falls c.args.count (numbers g.row.SIZE c.args.left c.args.text.now) c.loop-i.i c.loop-i.low c.loop-i.invariant.sound c.loop-i.invariant.is_low
    c.number_at-position.result turn.0 turn.1 c.if-position-count.false c.if-position-low.true

pub loop-i-preserved : goal.loop-i-preserved
loop-i-preserved g c =
    let turn = read_in_turn g.row.SIZE c.args.left c.args.text.now c.loop-i.i c.number_at-position.result c.loop-i-test.true c.number_at-position.ensures in
    let more = positions_more c.args.count (numbers g.row.SIZE c.args.left c.args.text.now) c.loop-i.i c.loop-i.low c.loop-i.invariant.sound c.loop-i.invariant.is_low
    c.number_at-position.result turn.0 turn.1 c.if-position-count.false c.if-position-low.false in
    record { sound = more.0; is_low = more.1; many = omega arith; within = omega arith }

pub returns : goal.returns
returns g c =
    let end : length (numbers g.row.SIZE c.args.left c.args.text.now) ≤ c.loop-i.i = omega (arith, length-numbers g.row.SIZE c.args.left c.args.text.now) in
    let all : (position_walk c.args.count 0 0 (numbers g.row.SIZE c.args.left c.args.text.now) ≡ None) × (c.loop-i.low - 1 ≡ greatest_of (numbers g.row.SIZE c.args.left c.args.text.now))
    = positions_end c.args.count c.loop-i.low c.loop-i.i (numbers g.row.SIZE c.args.left c.args.text.now) end c.loop-i.invariant.sound c.loop-i.invariant.is_low in
    (positions_walked c.args.count (numbers g.row.SIZE c.args.left c.args.text.now) ∙ all.0, c.saturating_sub.ensures ∙ all.1)
