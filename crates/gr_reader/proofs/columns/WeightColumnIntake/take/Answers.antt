use Rattle.std.proofs.Common.{◌≡◌, ℕ, ◌+◌, ◌/◌, List, length, ap, ◌∙◌, arith, length-append}
use Rattle.list_laws.specs.LittleEndian.{whole_numbers}
use Rattle.list_laws.proofs.WholeNumbers.{length-numbers, whole_numbers-fit, AreBytes-from_get_or}
use Rattle.gr_reader.specs.ColumnLists.{TookWeightColumn}
use Rattle.gr_reader.proofs.ColumnLaws.{TookWeightColumn-more}
use Rattle.gr_reader.proofs.columns.WeightColumnIntake.take.Goals as goal

pub returns-clause-took : goal.returns-clause-took
returns-clause-took c =
    let s = c.args.self.now in
    let light = whole_numbers-fit 4 c.args.piece.now (AreBytes-from_get_or c.args.piece.now (λ k. omega (arith, c.type_inv.piece k))) in
    λ (numbers : List ℕ) (took : TookWeightColumn s.weights.items numbers).
    rw c.in_ok-push_weights.ensures (TookWeightColumn-more s.weights.items numbers (whole_numbers 4 c.args.piece.now) took light)

pub returns-clause-room : goal.returns-clause-room
returns-clause-room c =
    let old = c.args.self.now.weights.items in
    let more = whole_numbers 4 c.args.piece.now in
    let count : length c.push_weights.new.weights.items ≡ length old + length c.args.piece.now / 4 =
    ap length c.in_ok-push_weights.ensures ∙ length-append old more ∙ ap (λ (n : ℕ). length old + n) (length-numbers 4 (length c.args.piece.now / 4) c.args.piece.now) in
    omega arith
