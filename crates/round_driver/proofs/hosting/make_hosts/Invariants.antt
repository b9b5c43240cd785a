use Rattle.std.proofs.Common.{◌≡◌, map, All}
use Rattle.round_driver.specs.Hosting.{IsNewHost}
use Rattle.round_driver.proofs.hosting.make_hosts.Given as goal

-- there is a new host for each pair so far
abbrev pub invariant-loop-graph : goal.invariant-loop-graph
invariant-loop-graph g l = record {
  can : (goal.iterator-loop-graph g).can_next l.graph-iterator;
  finite : (goal.iterator-loop-graph g).is_finite l.graph-iterator;
  graphs : map (λ host. host.graph) l.hosts.items ≡ map (λ pair. pair.0) l.yielded;
  memos : map (λ host. host.memo) l.hosts.items ≡ map (λ pair. pair.1) l.yielded;
  new : All (IsNewHost g.P.Red.Reduction.reducer (g.P.VertexProgram.steps l.program) g.P.Red.Item.Word.WIDTH g.P.Shown.Word.WIDTH l.program l.way) l.hosts.items;
}
