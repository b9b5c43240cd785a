use Rattle.std.proofs.Common.{◌≡◌, ◌∙◌, ℕ, ◌+◌, ◌<◌, List, ◌∷◌, ◌++◌, length, map, ap, arith}
use Rattle.proxy_graph.specs.Search.{arcs_to, in_arcs_since}
use Rattle.proxy_graph.proofs.SearchLaws.{next_vertex}
use Rattle.proxy_graph.proofs.search.SearchIterator.next.Goals as goal

pub invariant_of-self-in-loop-self : goal.invariant_of-self-in-loop-self
invariant_of-self-in-loop-self c = c.loop-self.invariant.known

pub invariant_of-self-in-Some-next_to : goal.invariant_of-self-in-Some-next_to
invariant_of-self-in-Some-next_to c = c.loop-self.invariant.known

-- what was to come is the arc that is found and what is still to come
steps : (c : goal.In-Some-next_to) → c.args.self.now ≡ (c.in-Some-run_from.source, c.in-Some-next_to.weight)
    ∷ (arcs_to c.loop-self.self-inside.head c.in-Some-run_from.source c.next_to-in-Some-run_from.new.run ++ in_arcs_since c.loop-self.self-inside.graph.now c.loop-self.self-inside.head (c.loop-self.self-inside.next + 1))
steps c =
    let share = c.loop-self.self-inside.graph.now in
    let head = c.loop-self.self-inside.head in
    let v = c.loop-self.self-inside.next in
    let tail : ℕ = c.in-Some-run_from.source in
    c.loop-self.invariant.left
    ∙ next_vertex share head v (omega (arith, c.loop-self-test.true, c.nodes.ensures.nodes))
    ∙ ap (λ (xs : List (ℕ × ℕ)). xs ++ in_arcs_since share head (v + 1))
    (c.in-Some-run_from.ensures head c.loop-self.invariant.known ∙ ap (map (λ (weight : ℕ). (tail, weight))) c.in-Some-next_to.ensures)

pub returns-in-Some-next_to-clause-steps : goal.returns-in-Some-next_to-clause-steps
returns-in-Some-next_to-clause-steps c = steps c

pub returns-in-Some-next_to-clause-goes : goal.returns-in-Some-next_to-clause-goes
returns-in-Some-next_to-clause-goes c =
    let rest = arcs_to c.loop-self.self-inside.head c.in-Some-run_from.source c.next_to-in-Some-run_from.new.run ++ in_arcs_since c.loop-self.self-inside.graph.now c.loop-self.self-inside.head (c.loop-self.self-inside.next + 1) in
    let less : length rest < length c.args.self.now = omega (arith, ap length (steps c)) in
    record { on = λ _. (tt, tt, less); keeps = tt; rests = λ _. tt }

pub loop-self-preserved-in_default-next_to : goal.loop-self-preserved-in_default-next_to
loop-self-preserved-in_default-next_to c =
    let share = c.loop-self.self-inside.graph.now in
    let head = c.loop-self.self-inside.head in
    let v = c.loop-self.self-inside.next in
    let tail : ℕ = c.in-Some-run_from.source in
    record {
      known = c.loop-self.invariant.known;
      empty = c.in_default-next_to.ensures.1;
      left = c.loop-self.invariant.left
          ∙ next_vertex share head v (omega (arith, c.loop-self-test.true, c.nodes.ensures.nodes))
          ∙ ap (λ (xs : List (ℕ × ℕ)). xs ++ in_arcs_since share head (v + 1))
          (c.in-Some-run_from.ensures head c.loop-self.invariant.known ∙ ap (map (λ (weight : ℕ). (tail, weight))) c.in_default-next_to.ensures.0);
    }

pub loop-self-preserved : goal.loop-self-preserved
loop-self-preserved c =
    let share = c.loop-self.self-inside.graph.now in
    let head = c.loop-self.self-inside.head in
    let v = c.loop-self.self-inside.next in
    record {
      known = c.loop-self.invariant.known;
      empty = c.loop-self.invariant.empty;
      left = c.loop-self.invariant.left
          ∙ next_vertex share head v (omega (arith, c.loop-self-test.true, c.nodes.ensures.nodes))
          ∙ ap (λ (xs : List (ℕ × ℕ)). xs ++ in_arcs_since share head (v + 1)) (c.in_default-run_from.ensures head c.loop-self.invariant.known);
    }
