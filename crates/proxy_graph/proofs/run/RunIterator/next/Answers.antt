use Rattle.std.proofs.Common.{◌≡◌, ◌∙◌, ◌+◌, ◌<◌, [], length, drop, ap, sym, arith, length-drop}
use Rattle.std.specs.List.{zip}
use Rattle.proxy_graph.proofs.Pairs.{length-pairs, pairs_end, pairs_next}
use Rattle.proxy_graph.proofs.run.RunIterator.next.Goals as goal

pub returns-then-self-clause-steps : goal.returns-then-self-clause-steps
returns-then-self-clause-steps c =
    let run = c.self.inside in
    let none : c.args.self.now ≡ [] = sym c.self.view_is ∙ pairs_end run.heads.now run.weights.now c.self.invariant.0 run.at (omega arith) in
    (none, none)

pub returns-clause-steps : goal.returns-clause-steps
returns-clause-steps c =
    let run = c.self.inside in
    sym c.self.view_is ∙ pairs_next run.heads.now run.weights.now c.self.invariant.0 run.at (omega arith)

pub returns-clause-goes : goal.returns-clause-goes
returns-clause-goes c =
    let run = c.self.inside in
    let pairs = zip run.heads.now run.weights.now in
    let less : length (drop (run.at + 1) pairs) < length c.args.self.now = omega (
      arith,
      length-pairs run.heads.now run.weights.now c.self.invariant.0,
      length-drop run.at pairs,
      length-drop (run.at + 1) pairs,
      ap length c.self.view_is,
    ) in
    record { on = λ _. (tt, tt, less); keeps = tt; rests = λ _. tt }
