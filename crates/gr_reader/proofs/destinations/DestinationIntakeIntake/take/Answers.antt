use Rattle.std.proofs.Common.{◌≡◌, ℕ, ◌+◌, ◌/◌, List, length, vec_len, sym, ap, ◌∙◌, arith, subst, Option}
use Rattle.std.proofs.lemmas.Result.{err_from_is_err_and}
use Rattle.list_laws.specs.LittleEndian.{whole_numbers}
use Rattle.list_laws.proofs.WholeNumbers.{length-numbers}
use Rattle.gr_reader.specs.declared.fault.GrFault.{GrFault}
use Rattle.gr_reader.specs.Sections.{IsFound}
use Rattle.gr_reader.specs.EdgeLists.{TookDestinations}
use Rattle.gr_reader.proofs.DestinationLaws.{TookDestinations-more, destination_fault-more}
use Rattle.gr_reader.proofs.destinations.DestinationIntakeIntake.take.Goals as goal

pub returns-in_err-self-clause-found : goal.returns-in_err-self-clause-found
returns-in_err-self-clause-found c =
    let p = err_from_is_err_and c.from_residual.result c.from_residual.ensures.1 in
    let s = c.args.self.now in
    rw (p.1, p.2) (λ (numbers : List ℕ) (took : TookDestinations s.nodes s.ends.now s.edges.items numbers).
    subst (λ (found : Option GrFault). IsFound found c.in_err-self.field-0.0) (sym (destination_fault-more s.nodes s.ends.now s.edges.items (vec_len s.edges) numbers (whole_numbers 4 c.args.piece.now) took (omega arith))) c.in_err-self.ensures.found)

pub returns-clause-took : goal.returns-clause-took
returns-clause-took c =
    let s = c.args.self.now in
    let more = whole_numbers 4 c.args.piece.now in
    let long : length c.push_edges.new.edges.items ≡ vec_len s.edges + length more = omega (arith, c.in_ok-self.ensures.count, length-numbers 4 (length c.args.piece.now / 4) c.args.piece.now) in
    λ (numbers : List ℕ) (took : TookDestinations s.nodes s.ends.now s.edges.items numbers).
    rw c.in_ok-self.ensures.pushed
    (TookDestinations-more s.nodes s.ends.now s.edges.items (vec_len s.edges) numbers more took (omega arith) c.in_ok-self.ensures.clear
    (sym (ap length c.in_ok-self.ensures.pushed) ∙ long))
