use Rattle.proxy_graph.proofs.local_graph.LocalGraph.assemble_for.Goals as goal

pub returns : goal.returns
returns c = c.of_draft.ensures _ c.in_ok-draft.ensures
