use Rattle.std.proofs.Common.{◌≡◌, ℕ, ◌+◌, List, [], ◌∷◌, ◌++◌, Some, drop, vec_len, sym, ap, ◌∙◌, append_assoc, arith, inr}
use Rattle.std.proofs.lemmas.List.{append-nil}
use Rattle.list_laws.specs.LittleEndian.{whole_numbers}
use Rattle.list_laws.proofs.WholeNumbers.{whole_numbers-none}
use Rattle.graph_model.specs.declared.edge.Edge.{Edge}
use Rattle.gr_reader.specs.declared.fault.GrFault.TheVariants.{Destination}
use Rattle.edge_columns.specs.Columns.{sources, plain_edges}
use Rattle.gr_reader.specs.File.{destination_fault}
use Rattle.gr_reader.proofs.Chunks.{split-4}
use Rattle.edge_columns.proofs.EdgeLaws.{plain_edges-none}
use Rattle.gr_reader.proofs.EdgeLaws.{destination_fault-step, destination_fault-here}
use Rattle.gr_reader.proofs.destinations.push_edges.Goals as goal

pub returns-then-dst-nodes-clause-found : goal.returns-then-dst-nodes-clause-found
returns-then-dst-nodes-clause-found c =
    let v = c.loop-front.invariant in
    let dst = c.from_le_bytes-dst.result in
    let more = whole_numbers 4 c.in-Some.after.now in
    let step : whole_numbers 4 c.loop-front.rest.now ≡ dst ∷ more = split-4 _ c.in-Some.front.now _ dst c.in-Some.ensures.cases.0 c.in-Some.ensures.cases.1 c.in-Some.ensures.cases.2 c.from_le_bytes-dst.ensures in
    inr (sym v.clear ∙ ap (destination_fault c.args.nodes (vec_len c.loop-front.edges)) step
    ∙ destination_fault-here c.args.nodes (vec_len c.loop-front.edges) dst more c.if-dst-nodes.true
    ∙ ap (λ (n : ℕ). Some (Destination n dst)) (sym c.len.ensures))

pub loop-front-preserved : goal.loop-front-preserved
loop-front-preserved c =
    let v = c.loop-front.invariant in
    let dst = c.from_le_bytes-dst.result in
    let count = vec_len c.loop-front.edges in
    let more = whole_numbers 4 c.in-Some.after.now in
    let all = sources 0 0 c.args.ends.now in
    let step : whole_numbers 4 c.loop-front.rest.now ≡ dst ∷ more = split-4 _ c.in-Some.front.now _ dst c.in-Some.ensures.cases.0 c.in-Some.ensures.cases.1 c.in-Some.ensures.cases.2 c.from_le_bytes-dst.ensures in
    let at : c.len-in-Some.result ≡ count = c.len-in-Some.ensures in
    let here : drop count all ≡ c.next_source-source.result ∷ drop (count + 1) all = rw (← at) c.next_source-source.ensures.source in
    let grown : vec_len c.push.new.self ≡ count + 1 = c.in_ok-push.ensures.len in
    record {
      pushed = rw (c.in_ok-push.ensures.items, grown, append_assoc)
          (ap (λ (l : List Edge). c.loop-front.edges.items ++ l) (sym (ap (λ (l : List ℕ). plain_edges l (dst ∷ more)) here) ∙ ap (plain_edges (drop count all)) (sym step)) ∙ v.pushed);
      count = omega (arith, grown, c.in-Some.ensures.cases.2);
      cursor = rw (grown, ← at) c.next_source-source.ensures.cursor;
      clear = rw grown (sym (destination_fault-step c.args.nodes count dst more c.if-dst-nodes.false) ∙ ap (destination_fault c.args.nodes count) (sym step) ∙ v.clear);
      room = omega (arith, grown, c.in-Some.ensures.cases.2);
    }

pub returns-clause-pushed : goal.returns-clause-pushed
returns-clause-pushed c =
    let v = c.loop-front.invariant in
    let none : whole_numbers 4 c.loop-front.rest.now ≡ [] = whole_numbers-none 4 c.loop-front.rest.now c.in_default.ensures.cases in
    let rest = drop (vec_len c.loop-front.edges) (sources 0 0 c.args.ends.now) in
    sym (append-nil c.loop-front.edges.items) ∙ ap (λ (l : List Edge). c.loop-front.edges.items ++ l) (sym (plain_edges-none rest) ∙ ap (plain_edges rest) (sym none)) ∙ v.pushed
