use Rattle.std.proofs.Common.{◌≡◌, ℕ, List, ◌∷◌, ◌++◌, Some, vec_len, sym, ap, ◌∙◌, append_assoc, arith, inr}
use Rattle.list_laws.specs.LittleEndian.{whole_numbers}
use Rattle.gr_reader.specs.declared.fault.GrFault.TheVariants.{Destination}
use Rattle.gr_reader.specs.File.{destination_fault}
use Rattle.gr_reader.proofs.Chunks.{split-4}
use Rattle.gr_reader.proofs.EdgeLaws.{destination_fault-step, destination_fault-here}
use Rattle.gr_reader.proofs.columns.push_destinations.Goals as goal

pub returns-then-dst-nodes-clause-found : goal.returns-then-dst-nodes-clause-found
returns-then-dst-nodes-clause-found c =
    let v = c.loop-front.invariant in
    let dst = c.from_le_bytes-dst.result in
    let more = whole_numbers 4 c.in-Some.after.now in
    let step : whole_numbers 4 c.loop-front.rest.now ≡ dst ∷ more = split-4 _ c.in-Some.front.now _ dst c.in-Some.ensures.cases.0 c.in-Some.ensures.cases.1 c.in-Some.ensures.cases.2 c.from_le_bytes-dst.ensures in
    inr (sym v.clear ∙ ap (destination_fault c.args.nodes (vec_len c.loop-front.destinations)) step
    ∙ destination_fault-here c.args.nodes (vec_len c.loop-front.destinations) dst more c.if-dst-nodes.true
    ∙ ap (λ (n : ℕ). Some (Destination n dst)) (sym c.len.ensures))

pub loop-front-preserved : goal.loop-front-preserved
loop-front-preserved c =
    let v = c.loop-front.invariant in
    let dst = c.from_le_bytes-dst.result in
    let count = vec_len c.loop-front.destinations in
    let more = whole_numbers 4 c.in-Some.after.now in
    let step : whole_numbers 4 c.loop-front.rest.now ≡ dst ∷ more = split-4 _ c.in-Some.front.now _ dst c.in-Some.ensures.cases.0 c.in-Some.ensures.cases.1 c.in-Some.ensures.cases.2 c.from_le_bytes-dst.ensures in
    record {
      pushed = rw (c.in_ok-push.ensures.items, append_assoc) (ap (λ (l : List ℕ). c.loop-front.destinations.items ++ l) (sym step) ∙ v.pushed);
      clear = rw c.in_ok-push.ensures.len
          (sym (destination_fault-step c.args.nodes count dst more c.if-dst-nodes.false) ∙ ap (destination_fault c.args.nodes count) (sym step) ∙ v.clear);
      room = omega (arith, c.in_ok-push.ensures.len, c.in-Some.ensures.cases.2);
    }
