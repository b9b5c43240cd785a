use Rattle.std.proofs.Common.{◌≡◌, ◌<◌, ◌-◌, [], length}
use Rattle.graph_division.specs.Shares.{nodes_of, proxies_here}
use Rattle.proxy_graph.specs.Search.{in_arcs_since}
use Rattle.proxy_graph.proofs.search.SearchIterator.next.Given as goal

-- what was to come is what comes from the vertices that are not looked at yet
abbrev pub invariant-loop-self : goal.invariant-loop-self
invariant-loop-self l = record {
  known : l.self-inside.head < length (proxies_here l.self-inside.graph.now);
  empty : l.self-inside.run ≡ [];
  left : l.fn.self ≡ in_arcs_since l.self-inside.graph.now l.self-inside.head l.self-inside.next;
}

abbrev pub decreases-loop-self : goal.decreases-loop-self
decreases-loop-self l = nodes_of l.self-inside.graph.now - l.self-inside.next
