use Rattle.std.proofs.Common.{◌≡◌, ℕ, ◌+◌, ◌/◌, List, length, vec_len, ap, ◌∙◌, arith, length-append, subst, sym, Option}
use Rattle.std.proofs.lemmas.Result.{err_from_is_err_and}
use Rattle.list_laws.specs.LittleEndian.{whole_numbers}
use Rattle.list_laws.proofs.WholeNumbers.{length-numbers}
use Rattle.gr_reader.specs.declared.fault.GrFault.{GrFault}
use Rattle.gr_reader.specs.Sections.{IsFound}
use Rattle.gr_reader.specs.ColumnLists.{TookDestinationColumn}
use Rattle.gr_reader.proofs.ColumnLaws.{TookDestinationColumn-more, column_fault-more}
use Rattle.gr_reader.proofs.columns.DestinationColumnIntake.take.Goals as goal

pub returns-in_err-push_destinations-clause-found : goal.returns-in_err-push_destinations-clause-found
returns-in_err-push_destinations-clause-found c =
    let p = err_from_is_err_and c.from_residual.result c.from_residual.ensures.1 in
    let s = c.args.self.now in
    rw (p.1, p.2) (λ (numbers : List ℕ) (took : TookDestinationColumn s.nodes s.destinations.items numbers).
    subst (λ (found : Option GrFault). IsFound found c.in_err-push_destinations.field-0.0) (sym (column_fault-more s.nodes s.destinations.items (vec_len s.destinations) numbers (whole_numbers 4 c.args.piece.now) took (omega arith))) c.in_err-push_destinations.ensures.found)

pub returns-clause-took : goal.returns-clause-took
returns-clause-took c =
    let s = c.args.self.now in
    λ (numbers : List ℕ) (took : TookDestinationColumn s.nodes s.destinations.items numbers).
    rw c.in_ok-push_destinations.ensures.pushed
    (TookDestinationColumn-more s.nodes s.destinations.items (vec_len s.destinations) numbers (whole_numbers 4 c.args.piece.now) took (omega arith) c.in_ok-push_destinations.ensures.clear)

pub returns-clause-room : goal.returns-clause-room
returns-clause-room c =
    let old = c.args.self.now.destinations.items in
    let more = whole_numbers 4 c.args.piece.now in
    let count : length c.push_destinations.new.destinations.items ≡ length old + length c.args.piece.now / 4 =
    ap length c.in_ok-push_destinations.ensures.pushed ∙ length-append old more ∙ ap (λ (n : ℕ). length old + n) (length-numbers 4 (length c.args.piece.now / 4) c.args.piece.now) in
    omega arith
