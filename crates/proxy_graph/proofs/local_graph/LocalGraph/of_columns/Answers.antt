use Rattle.std.proofs.Common.{refl}
use Rattle.proxy_graph.specs.declared.local_graph.LocalGraph.TheInside.{Inside}
use Rattle.proxy_graph.proofs.LoneHost.{AreLone, lone_kept, lone_stands}
use Rattle.proxy_graph.proofs.local_graph.LocalGraph.of_columns.Goals as goal
use Rattle.proxy_graph.proofs.local_graph.LocalGraph.of_columns.Goals.{After-new}

-- the fields of the graph that is made
abbrev made : After-new → Inside
made c = record {
  host = 0;
  nodes = c.nodes-nodes.result;
  masters = c.in_ok-masters.masters;
  first = 0;
  count = c.nodes-nodes.result;
  mirrors = c.new.result;
  out = record { starts = c.into_parts-starts.result.0; heads = c.into_parts-starts.result.1; weights = c.into_parts-starts.result.2 };
  back = c.in_ok-back.back;
}

-- they hold the columns
lone : (c : After-new) → AreLone c.args.masters.now c.in_ok-masters.ensures.facts c.requires.alone c.args.columns c.nodes-nodes.ensures.facts c.requires.nodes (made c)
lone c = record {
  host = refl;
  nodes = c.nodes-nodes.ensures.nodes;
  same = c.in_ok-masters.ensures.same;
  first = refl;
  count = c.nodes-nodes.ensures.nodes;
  mirrors = c.new.ensures.items;
  starts = c.into_parts-starts.ensures.starts;
  heads = c.into_parts-starts.ensures.destinations;
  weights = c.into_parts-starts.ensures.weights;
  back = c.in_ok-back.ensures;
}

pub invariant_of-result : goal.invariant_of-result
invariant_of-result c = lone_kept c.args.masters.now c.in_ok-masters.ensures.facts c.requires.alone c.args.columns c.nodes-nodes.ensures.facts c.requires.nodes (made c) (lone c)

pub returns : goal.returns
returns c = lone_stands c.args.masters.now c.in_ok-masters.ensures.facts c.requires.alone c.args.columns c.nodes-nodes.ensures.facts c.requires.nodes (made c) (lone c)
