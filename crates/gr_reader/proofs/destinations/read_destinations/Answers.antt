use Rattle.std.proofs.Common.{subst, arith, inl, refl}
use Rattle.std.proofs.lemmas.Result.{err_from_is_err_and}
use Rattle.gr_reader.specs.Sections.{Fixed}
use Rattle.gr_reader.specs.EdgeLists.{TookDestinations}
use Rattle.gr_reader.proofs.EdgeLaws.{destination_fault-front}
use Rattle.gr_reader.proofs.DestinationLaws.{TookDestinations-none}
use Rattle.gr_reader.proofs.GraphLaws.{unweighed-plain_edges}
use Rattle.gr_reader.proofs.destinations.read_destinations.Goals as goal

pub read_section-requires-clause-size : goal.read_section-requires-clause-size
read_section-requires-clause-size g c = inl refl

pub read_section-requires-clause-start : goal.read_section-requires-clause-start
read_section-requires-clause-start g c = rw c.new.ensures.items (TookDestinations-none c.args.head.nodes c.args.ends.now)

pub read_section-requires-clause-first : goal.read_section-requires-clause-first
read_section-requires-clause-first g c = destination_fault-front c.args.head.nodes 0

pub returns-in_err-read_section-clause-broke : goal.returns-in_err-read_section-clause-broke
returns-in_err-read_section-clause-broke g c =
    let p = err_from_is_err_and c.from_residual.result c.from_residual.ensures.1 in
    rw (p.1, p.2) c.in_err-read_section.ensures.broke

pub returns-clause-came : goal.returns-clause-came
returns-clause-came g c =
    let came = c.in_ok-read_section.ensures.came in
    record {
      numbers = came.numbers;
      taken = subst (λ (f : Fixed). TookDestinations f.nodes f.ends c.read_section.new.intake.edges.items came.numbers) c.read_section.ensures.fixed came.taken.1;
      means = came.means;
    }

pub returns-clause-count : goal.returns-clause-count
returns-clause-count g c =
    let came = c.in_ok-read_section.ensures.came in
    omega (arith, came.taken.0, came.taken.1.count)

pub returns-clause-ones : goal.returns-clause-ones
returns-clause-ones g c = rw c.in_ok-read_section.ensures.came.taken.1.edges_are (unweighed-plain_edges _ _)
