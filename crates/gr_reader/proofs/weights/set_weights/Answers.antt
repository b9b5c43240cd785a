use Rattle.std.proofs.Common.{◌≡◌, ℕ, ◌<◌, List, [], ◌∷◌, ◌++◌, length, take, drop, sym, ap, ◌∙◌, arith}
use Rattle.std.proofs.lemmas.List.{take-append-drop}
use Rattle.list_laws.specs.LittleEndian.{whole_numbers}
use Rattle.list_laws.proofs.WholeNumbers.{whole_numbers-none}
use Rattle.graph_model.specs.declared.edge.Edge.{Edge}
use Rattle.edge_columns.specs.Columns.{weighed}
use Rattle.gr_reader.proofs.Chunks.{split-4}
use Rattle.edge_columns.proofs.EdgeLaws.{weighed-none}
use Rattle.gr_reader.proofs.WeightLaws.{weigh_one}
use Rattle.gr_reader.proofs.weights.set_weights.Goals as goal

pub loop-front-preserved : goal.loop-front-preserved
loop-front-preserved c =
    let v = c.loop-front.invariant in
    let weight = c.from_le_bytes.result in
    let more = whole_numbers 4 c.in-Some.after.now in
    let step : whole_numbers 4 c.loop-front.rest.now ≡ weight ∷ more = split-4 _ c.in-Some.front.now _ weight c.in-Some.ensures.cases.0 c.in-Some.ensures.cases.1 c.in-Some.ensures.cases.2 c.from_le_bytes.ensures in
    let within : c.loop-front.place < length c.loop-front.edges = omega (arith, c.in-Some.ensures.cases.2) in
    let rest = drop c.loop-front.place c.loop-front.edges in
    record {
      set_so_far = weigh_one c.loop-front.edges c.loop-front.place weight more _ within
          ∙ ap (λ (l : List ℕ). take c.loop-front.place c.loop-front.edges ++ weighed rest l) (sym step) ∙ v.set_so_far;
      count = omega (arith, c.in-Some.ensures.cases.2);
    }

pub returns : goal.returns
returns c =
    let v = c.loop-front.invariant in
    let rest = drop c.loop-front.place c.loop-front.edges in
    let none : whole_numbers 4 c.loop-front.rest.now ≡ [] = whole_numbers-none 4 c.loop-front.rest.now c.in_default.ensures.cases in
    sym (take-append-drop c.loop-front.place c.loop-front.edges)
    ∙ ap (λ (l : List Edge). take c.loop-front.place c.loop-front.edges ++ l) (sym (weighed-none rest) ∙ ap (weighed rest) (sym none)) ∙ v.set_so_far
