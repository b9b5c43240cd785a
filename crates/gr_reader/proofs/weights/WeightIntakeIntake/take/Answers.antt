use Rattle.std.proofs.Common.{ℕ, ◌/◌, ◌≤◌, List, [], length, vec_len, ap, ◌∙◌, sym, arith}
use Rattle.list_laws.specs.LittleEndian.{whole_numbers}
use Rattle.list_laws.proofs.WholeNumbers.{length-numbers, whole_numbers-fit, AreBytes-from_get_or}
use Rattle.graph_model.specs.declared.edge.Edge.{Edge}
use Rattle.gr_reader.specs.Sections.{Fixed}
use Rattle.gr_reader.specs.EdgeLists.{TookWeights, unweighed}
use Rattle.gr_reader.proofs.WeightLaws.{TookWeights-more, weights_slice, placed-unweighed}
use Rattle.gr_reader.proofs.weights.WeightIntakeIntake.take.Goals as goal

pub returns-clause-took : goal.returns-clause-took
returns-clause-took c =
    let s = c.args.self.now in
    let more = whole_numbers 4 c.args.piece.now in
    let within : s.place ≤ length s.edges.items = omega arith in
    let now = weights_slice s.edges.items c.deref_mut.result.now c.set_weights.new.edges (vec_len s.edges) s.place more c.deref_mut.ensures.value (omega arith) within c.set_weights.ensures in
    let light = whole_numbers-fit 4 c.args.piece.now (AreBytes-from_get_or c.args.piece.now (λ k. omega (arith, c.type_inv.piece k))) in
    λ (numbers : List ℕ) (took : TookWeights s.edges.items s.place numbers).
    TookWeights-more s.edges.items _ s.place numbers more took within now _ (sym (length-numbers 4 (length c.args.piece.now / 4) c.args.piece.now)) light

pub returns-clause-fixed : goal.returns-clause-fixed
returns-clause-fixed c =
    let s = c.args.self.now in
    let more = whole_numbers 4 c.args.piece.now in
    let within : s.place ≤ length s.edges.items = omega arith in
    let now = weights_slice s.edges.items c.deref_mut.result.now c.set_weights.new.edges (vec_len s.edges) s.place more c.deref_mut.ensures.value (omega arith) within c.set_weights.ensures in
    let same = ap unweighed now ∙ placed-unweighed s.edges.items s.place more in
    ap (λ (l : List Edge). let f : Fixed = record { nodes = 0; ends = []; edges = l } in f) same
