use Rattle.std.proofs.Common.{List, sym, ap, subst, ◌∙◌, arith}
use Rattle.graph_model.specs.declared.edge.Edge.{Edge}
use Rattle.graph_model.specs.Graph.{Graph, IsGraph}
use Rattle.graph_maker.specs.MadeGraph.{words_before}
use Rattle.graph_maker.proofs.Stream.{state_at-zero, state_at_fits}
use Rattle.graph_maker.proofs.Made.{nodes-more, state-more, made_edges-from}
use Rattle.graph_maker.proofs.Facts.{IsGraph-made}
use Rattle.graph_maker.proofs.made_graph.make.Goals as goal

pub loop-node-init : goal.loop-node-init
loop-node-init c = record {
  edges = c.in_ok-edges.ensures.items;
  words = c.seed_from_u64-words.ensures.same ∙ sym (state_at-zero c.args.number (omega arith));
}

pub push_edges-requires-clause-state_fits : goal.push_edges-requires-clause-state_fits
push_edges-requires-clause-state_fits c =
    rw c.loop-node.invariant.words (state_at_fits c.args.number (words_before c.loop-node.node))

pub loop-node-preserved : goal.loop-node-preserved
loop-node-preserved c = record {
  edges = c.in_ok-push_edges.ensures.edges ∙ nodes-more c.args.size c.args.number c.loop-node.node c.loop-node.words c.loop-node.edges.items c.loop-node.invariant.edges c.loop-node.invariant.words;
  words = c.in_ok-push_edges.ensures.words ∙ state-more c.args.number c.loop-node.node c.loop-node.words c.loop-node.invariant.words;
}

pub from_parts-requires : goal.from_parts-requires
from_parts-requires c =
    let edges = made_edges-from c.args.size c.args.number c.loop-node.node c.loop-node.edges.items c.loop-node.invariant.edges (omega arith) in
    subst (λ (l : List Edge). IsGraph (record { nodes = c.args.size; edges = l })) (sym edges)
    (IsGraph-made c.args.size c.args.number c.requires.some c.requires.few)

pub returns : goal.returns
returns c =
    let edges = made_edges-from c.args.size c.args.number c.loop-node.node c.loop-node.edges.items c.loop-node.invariant.edges (omega arith) in
    record {
      made = c.from_parts.ensures ∙ ap (λ (l : List Edge). let graph : Graph = record { nodes = c.args.size; edges = l } in graph) edges;
    }
