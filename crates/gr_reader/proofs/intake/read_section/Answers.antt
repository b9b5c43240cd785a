use Rattle.std.proofs.Common.{◌≡◌, ◌+◌, ◌-◌, ◌*◌, ◌/◌, [], ◌++◌, length, ap, refl, ◌∙◌, arith, length-append}
use Rattle.std.proofs.lemmas.Result.{err_from_is_err_and}
use Rattle.list_laws.specs.LittleEndian.{whole_numbers}
use Rattle.list_laws.proofs.WholeNumbers.{whole_numbers-none, length-numbers}
use Rattle.io_edge.proofs.Moves.{Gives-[], Gives-++}
use Rattle.gr_reader.specs.Cause.{cause_of}
use Rattle.gr_reader.proofs.CauseLaws.{IsOfSection-from_content, CauseCounts-from_content}
use Rattle.gr_reader.proofs.TakingLaws.{TakesAtMost-then}
use Rattle.gr_reader.proofs.SectionLaws.{some_size, whole_numbers-piece, section_came, section_ends, section_refused}
use Rattle.gr_reader.proofs.intake.read_section.Goals as goal

pub loop-got-init : goal.loop-got-init
loop-got-init g c = record {
  bytes = [];
  pieces = 0;
  gives = Gives-[] _;
  count = refl;
  aligned = omega arith;
  taken = rw (whole_numbers-none g.T.Intake.size [] (some_size g.T.Intake.size c.requires.size)) c.requires.start;
  fixed = refl;
  ready = c.requires.ready;
  room = omega (arith, c.requires.room);
  quiet = refl;
}

pub returns-in_err-piece-clause-taken : goal.returns-in_err-piece-clause-taken
returns-in_err-piece-clause-taken g c =
    let v = c.loop-got.invariant in
    TakesAtMost-then c.loop-got.got (c.args.want - c.loop-got.got) c.args.want _ _ _ (omega arith) (record { got = v.bytes; gives = v.gives; within = omega arith }) c.in_err-piece.ensures.taken

pub returns-in_err-take-clause-broke : goal.returns-in_err-take-clause-broke
returns-in_err-take-clause-broke g c =
    let p = err_from_is_err_and c.from_residual-in_err-take.result c.from_residual-in_err-take.ensures.1 in
    let v = c.loop-got.invariant in
    let piece = c.in_ok-piece.piece.now in
    let aligned : length v.bytes ≡ 65536 * v.pieces = omega arith in
    rw (p.1, p.2) (section_refused g.T.Intake.section g.T.Intake.size c.args.want (g.T.Intake.fault (g.T.Intake.fixed c.args.intake.now)) _ _ (v.bytes ++ piece) c.in_err-take.field-0.0 c.requires.first c.requires.size
    (Gives-++ _ _ _ v.bytes piece v.gives c.in_ok-piece.ensures.bytes) (omega (arith, c.in_ok-piece.ensures.count, length-append v.bytes piece))
    (rw (whole_numbers-piece g.T.Intake.size v.pieces v.bytes piece c.requires.size aligned, ← v.fixed) (c.in_err-take.ensures.found (whole_numbers g.T.Intake.size v.bytes) v.taken)))

pub returns-in_err-take-clause-kind : goal.returns-in_err-take-clause-kind
returns-in_err-take-clause-kind g c =
    let p = err_from_is_err_and c.from_residual-in_err-take.result c.from_residual-in_err-take.ensures.1 in
    rw (p.1, p.2) (IsOfSection-from_content g.T.Intake.section (cause_of c.in_err-take.field-0.0) c.in_err-take.ensures.kind)

pub returns-in_err-take-clause-taken : goal.returns-in_err-take-clause-taken
returns-in_err-take-clause-taken g c =
    let v = c.loop-got.invariant in
    let piece = c.in_ok-piece.piece.now in
    record { got = v.bytes ++ piece; gives = Gives-++ _ _ _ v.bytes piece v.gives c.in_ok-piece.ensures.bytes; within = omega (arith, c.in_ok-piece.ensures.count, length-append v.bytes piece) }

pub returns-in_err-take-clause-counts : goal.returns-in_err-take-clause-counts
returns-in_err-take-clause-counts g c =
    let p = err_from_is_err_and c.from_residual-in_err-take.result c.from_residual-in_err-take.ensures.1 in
    let v = c.loop-got.invariant in
    rw (p.1, p.2) (CauseCounts-from_content g.T.Intake.section (cause_of c.in_err-take.field-0.0) _ _ c.in_err-take.ensures.kind (c.in_ok-piece.ensures.counts ∙ v.quiet))

pub returns-then-got-want-clause-broke : goal.returns-then-got-want-clause-broke
returns-then-got-want-clause-broke g c =
    let v = c.loop-got.invariant in
    let piece = c.in_ok-piece.piece.now in
    let aligned : length v.bytes ≡ 65536 * v.pieces = omega arith in
    let all : c.loop-got.got + length piece ≡ length (v.bytes ++ piece) = omega (arith, length-append v.bytes piece) in
    let clear = g.T.Intake.clear _ _ (c.in_ok-take.ensures.took (whole_numbers g.T.Intake.size v.bytes) v.taken) in
    rw (c.requires.section, all) (section_ends g.T.Intake.section g.T.Intake.size c.args.want (g.T.Intake.fault (g.T.Intake.fixed c.args.intake.now)) _ _ (v.bytes ++ piece)
    (Gives-++ _ _ _ v.bytes piece v.gives c.in_ok-piece.ensures.bytes) (c.in_ok-piece.ensures.end (omega arith)) (omega (arith, length-append v.bytes piece))
    (rw (whole_numbers-piece g.T.Intake.size v.pieces v.bytes piece c.requires.size aligned, ← v.fixed, ← c.in_ok-take.ensures.fixed) clear))

pub returns-then-got-want-clause-taken : goal.returns-then-got-want-clause-taken
returns-then-got-want-clause-taken g c =
    let v = c.loop-got.invariant in
    let piece = c.in_ok-piece.piece.now in
    record { got = v.bytes ++ piece; gives = Gives-++ _ _ _ v.bytes piece v.gives c.in_ok-piece.ensures.bytes; within = omega (arith, c.in_ok-piece.ensures.count, length-append v.bytes piece) }

pub loop-got-preserved : goal.loop-got-preserved
loop-got-preserved g c =
    let v = c.loop-got.invariant in
    let piece = c.in_ok-piece.piece.now in
    let aligned : length v.bytes ≡ 65536 * v.pieces = omega arith in
    record {
      bytes = v.bytes ++ piece;
      pieces = v.pieces + 1;
      gives = Gives-++ _ _ _ v.bytes piece v.gives c.in_ok-piece.ensures.bytes;
      count = omega (arith, length-append v.bytes piece);
      aligned = omega (arith, c.in_ok-piece.ensures.count);
      taken = rw (whole_numbers-piece g.T.Intake.size v.pieces v.bytes piece c.requires.size aligned) (c.in_ok-take.ensures.took (whole_numbers g.T.Intake.size v.bytes) v.taken);
      fixed = c.in_ok-take.ensures.fixed ∙ v.fixed;
      ready = c.in_ok-take.ensures.ready;
      room = omega (arith, c.in_ok-take.ensures.room);
      quiet = c.in_ok-piece.ensures.counts ∙ v.quiet;
    }

pub returns-clause-came : goal.returns-clause-came
returns-clause-came g c =
    let v = c.loop-got.invariant in
    let whole : length v.bytes ≡ c.args.want = omega arith in
    let size = g.T.Intake.size in
    record {
      numbers = whole_numbers size v.bytes;
      taken = (length-numbers size (length v.bytes / size) v.bytes ∙ ap (λ n. n / size) whole, v.taken);
      means = section_came g.T.Intake.section size c.args.want (g.T.Intake.fault (g.T.Intake.fixed c.args.intake.now)) _ _ v.bytes v.gives whole (rw (← v.fixed) (g.T.Intake.clear _ _ v.taken));
    }
