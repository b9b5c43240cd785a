use Rattle.std.proofs.Common.{◌≡◌, ◌≤◌, ◌∙◌, true, false, length, arith}
use Rattle.list_laws.specs.LittleEndian.{numbers}
use Rattle.list_laws.specs.Among.{is_among}
use Rattle.field_encodings.proofs.RisingSearch.{not_lower}
use Rattle.field_encodings.proofs.Lookups.{among_from, among_behind}
use Rattle.field_encodings.proofs.FirstFault.{id_falls, id_unknown, ids_more, ids_end, ids_bound, read_in_turn}
use Rattle.list_laws.proofs.WholeNumbers.{length-numbers}
use Rattle.field_encodings.proofs.Faults.{ids_walked}
use Rattle.field_encodings.proofs.order_checks.check_ids.Goals as goal

pub overflow_cast-result : goal.overflow_cast-result
overflow_cast-result c =
    let so_far : c.loop-i.i ≤ length (numbers 4 c.args.left c.args.text.now) = omega (arith, length-numbers 4 c.args.left c.args.text.now) in
    omega (arith, ids_bound c.args.ids.now (numbers 4 c.args.left c.args.text.now) c.loop-i.i c.requires.rising so_far c.loop-i.invariant.sound)

pub returns-then-id-low : goal.returns-then-id-low
returns-then-id-low c =
    let turn = read_in_turn 4 c.args.left c.args.text.now c.loop-i.i c.number_at-id.result c.loop-i-test.true c.number_at-id.ensures in
    ids_walked c.args.ids.now (numbers 4 c.args.left c.args.text.now) ∙ id_falls c.args.ids.now (numbers 4 c.args.left c.args.text.now) c.loop-i.i c.loop-i.low c.loop-i.invariant.sound c.loop-i.invariant.is_low
    c.number_at-id.result turn.0 turn.1 c.if-id-low.true

pub returns-in_default : goal.returns-in_default
returns-in_default c =
    let turn = read_in_turn 4 c.args.left c.args.text.now c.loop-i.i c.number_at-id.result c.loop-i-test.true c.number_at-id.ensures in
    let unknown : is_among c.args.ids.now c.number_at-id.result ≡ false
    = among_behind c.args.ids.now c.loop-i.from c.number_at-id.result c.loop-i.invariant.within (λ k l. omega (arith, c.loop-i.invariant.passed k l)) ∙ c.in_default.ensures in
    ids_walked c.args.ids.now (numbers 4 c.args.left c.args.text.now) ∙ id_unknown c.args.ids.now (numbers 4 c.args.left c.args.text.now) c.loop-i.i c.loop-i.low c.loop-i.invariant.sound c.loop-i.invariant.is_low
    c.number_at-id.result turn.0 turn.1 c.if-id-low.false unknown

pub loop-i-preserved : goal.loop-i-preserved
loop-i-preserved c =
    let turn = read_in_turn 4 c.args.left c.args.text.now c.loop-i.i c.number_at-id.result c.loop-i-test.true c.number_at-id.ensures in
    let known : is_among c.args.ids.now c.number_at-id.result ≡ true
    = among_from c.args.ids.now 0 c.in-Some.place c.number_at-id.result (omega arith) c.in-Some.ensures.1 c.in-Some.ensures.2 in
    let more = ids_more c.args.ids.now (numbers 4 c.args.left c.args.text.now) c.loop-i.i c.loop-i.low c.loop-i.invariant.sound c.loop-i.invariant.is_low
    c.number_at-id.result turn.0 turn.1 c.if-id-low.false known in
    record {
      sound = more.0;
      is_low = more.1;
      within = omega (arith, c.in-Some.ensures.1);
      passed = λ k l. omega (arith, c.in-Some.ensures.2, not_lower c.args.ids.now k c.in-Some.place c.requires.rising (omega arith) c.in-Some.ensures.1);
    }

pub returns : goal.returns
returns c =
    let end : length (numbers 4 c.args.left c.args.text.now) ≤ c.loop-i.i = omega (arith, length-numbers 4 c.args.left c.args.text.now) in
    ids_walked c.args.ids.now (numbers 4 c.args.left c.args.text.now) ∙ ids_end c.args.ids.now (numbers 4 c.args.left c.args.text.now) c.loop-i.i end c.loop-i.invariant.sound
