use Rattle.std.proofs.Common.{◌≡◌, ◌<◌, ◌+◌, ◌∷◌, ◌∙◌, ℕ, List, length, get_or, drop, map, sym, ap, subst, arith}
use Rattle.std.proofs.lemmas.List.{drop_all, drop_more}
use Rattle.list_laws.specs.LittleEndian.{numbers}
use Rattle.list_laws.specs.Among.{is_among, place_of}
use Rattle.list_laws.proofs.WholeNumbers.{length-numbers}
use Rattle.field_encodings.specs.Places.{StandFrom}
use Rattle.field_encodings.proofs.FirstFault.{read_in_turn}
use Rattle.field_encodings.proofs.Lookups.{place_found, StandFrom-behind, is_found, at_some}
use Rattle.field_encodings.proofs.places.next_id.Goals as goal

pub returns-then-next-count-clause-first : goal.returns-then-next-count-clause-first
returns-then-next-count-clause-first c =
    drop_all c.args.next (numbers 4 c.args.count c.args.text.now) (omega (arith, length-numbers 4 c.args.count c.args.text.now))

-- the number at a turn and those behind it
split_at_turn : (count : ℕ) (text : List ℕ) (next x : ℕ) → next < length (numbers 4 count text) → x ≡ get_or (numbers 4 count text) next 0 → drop next (numbers 4 count text) ≡ x ∷ drop (next + 1) (numbers 4 count text)
split_at_turn count text next x inside e = drop_more (numbers 4 count text) next 0 inside ∙ ap (λ y. y ∷ drop (next + 1) (numbers 4 count text)) (sym e)

pub unwrap-requires : goal.unwrap-requires
unwrap-requires c =
    let turn = read_in_turn 4 c.args.count c.args.text.now c.args.next c.number_at.result c.if-next-count.false c.number_at.ensures in
    let stand : StandFrom c.args.ids.now c.args.from (c.number_at.result ∷ drop (c.args.next + 1) (numbers 4 c.args.count c.args.text.now))
    = subst (StandFrom c.args.ids.now c.args.from) (split_at_turn c.args.count c.args.text.now c.args.next c.number_at.result turn.0 turn.1) c.requires.stand in
    is_found c.place_from.result (is_among (drop c.args.from c.args.ids.now) c.number_at.result) _ stand.known.0 c.place_from.ensures

pub returns-clause-first : goal.returns-clause-first
returns-clause-first c =
    let turn = read_in_turn 4 c.args.count c.args.text.now c.args.next c.number_at.result c.if-next-count.false c.number_at.ensures in
    let found = at_some c.place_from.result c.unwrap.result _ _ c.unwrap.ensures c.place_from.ensures in
    ap (map (place_of c.args.ids.now)) (split_at_turn c.args.count c.args.text.now c.args.next c.number_at.result turn.0 turn.1)
    ∙ ap (λ place. place ∷ map (place_of c.args.ids.now) (drop (c.args.next + 1) (numbers 4 c.args.count c.args.text.now)))
    (place_found c.args.ids.now c.unwrap.result c.number_at.result c.requires.rising found.1 found.2)

pub returns-clause-stand : goal.returns-clause-stand
returns-clause-stand c =
    let turn = read_in_turn 4 c.args.count c.args.text.now c.args.next c.number_at.result c.if-next-count.false c.number_at.ensures in
    let found = at_some c.place_from.result c.unwrap.result _ _ c.unwrap.ensures c.place_from.ensures in
    StandFrom-behind c.args.ids.now c.args.from c.unwrap.result c.number_at.result (drop (c.args.next + 1) (numbers 4 c.args.count c.args.text.now)) c.requires.rising found.0 found.1 found.2
    (subst (StandFrom c.args.ids.now c.args.from) (split_at_turn c.args.count c.args.text.now c.args.next c.number_at.result turn.0 turn.1) c.requires.stand)
