use Rattle.std.proofs.Common.{◌+◌, ◌∷◌, drop, sym, ap, ◌∙◌, arith}
use Rattle.std.proofs.lemmas.List.{drop_all, drop_more}
use Rattle.list_laws.specs.LittleEndian.{numbers}
use Rattle.list_laws.proofs.WholeNumbers.{length-numbers}
use Rattle.field_encodings.proofs.FirstFault.{read_in_turn}
use Rattle.field_encodings.proofs.places.next_number.Goals as goal

pub returns-then-next-count-clause-first : goal.returns-then-next-count-clause-first
returns-then-next-count-clause-first c =
    drop_all c.args.next (numbers c.args.width c.args.count c.args.text.now) (omega (arith, length-numbers c.args.width c.args.count c.args.text.now))

pub returns-clause-first : goal.returns-clause-first
returns-clause-first c =
    let turn = read_in_turn c.args.width c.args.count c.args.text.now c.args.next c.wide_number_at.result c.if-next-count.false c.wide_number_at.ensures in
    drop_more (numbers c.args.width c.args.count c.args.text.now) c.args.next 0 turn.0
    ∙ ap (λ x. x ∷ drop (c.args.next + 1) (numbers c.args.width c.args.count c.args.text.now)) (sym turn.1)
