use Rattle.std.proofs.Common.{◌≡◌, ℕ, ◌+◌, ◌/◌, List, length, vec_len, ap, ◌∙◌, arith, length-append, subst, sym, Option}
use Rattle.std.proofs.lemmas.Result.{err_from_is_err_and}
use Rattle.list_laws.specs.LittleEndian.{whole_numbers}
use Rattle.list_laws.proofs.WholeNumbers.{length-numbers}
use Rattle.gr_reader.specs.declared.fault.GrFault.{GrFault}
use Rattle.gr_reader.specs.Sections.{TookIndex, IsFound}
use Rattle.gr_reader.proofs.IndexLaws.{TookIndex-more, entry_fault-more}
use Rattle.gr_reader.proofs.index.IndexIntakeIntake.take.Goals as goal

pub returns-in_err-self-clause-found : goal.returns-in_err-self-clause-found
returns-in_err-self-clause-found c =
    let p = err_from_is_err_and c.from_residual.result c.from_residual.ensures.1 in
    let s = c.args.self.now in
    rw (p.1, p.2) (λ (numbers : List ℕ) (took : TookIndex s.entries.items s.before numbers).
    subst (λ (found : Option GrFault). IsFound found c.in_err-self.field-0.0) (sym (entry_fault-more s.entries.items (vec_len s.entries) s.before numbers (whole_numbers 8 c.args.piece.now) took (omega arith))) c.in_err-self.ensures.found)

pub returns-clause-took : goal.returns-clause-took
returns-clause-took c =
    let s = c.args.self.now in
    λ (numbers : List ℕ) (took : TookIndex s.entries.items s.before numbers).
    rw (c.in_ok-self.ensures.pushed, c.in_ok-self.ensures.last)
    (TookIndex-more s.entries.items (vec_len s.entries) s.before numbers (whole_numbers 8 c.args.piece.now) took (omega arith) c.in_ok-self.ensures.clear)

pub returns-clause-room : goal.returns-clause-room
returns-clause-room c =
    let old = c.args.self.now.entries.items in
    let more = whole_numbers 8 c.args.piece.now in
    let count : length c.push_entries.new.entries.items ≡ length old + length c.args.piece.now / 8 =
    ap length c.in_ok-self.ensures.pushed ∙ length-append old more ∙ ap (λ (n : ℕ). length old + n) (length-numbers 8 (length c.args.piece.now / 8) c.args.piece.now) in
    omega arith
