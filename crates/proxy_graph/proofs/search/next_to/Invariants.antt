use Rattle.std.proofs.Common.{◌≡◌, length}
use Rattle.proxy_graph.specs.Search.{weights_to}
use Rattle.proxy_graph.proofs.search.next_to.Given as goal

-- no arc that was passed leads there
abbrev pub invariant-loop-other : goal.invariant-loop-other
invariant-loop-other l = weights_to l.head l.fn.run ≡ weights_to l.head l.run

abbrev pub decreases-loop-other : goal.decreases-loop-other
decreases-loop-other l = length l.run
