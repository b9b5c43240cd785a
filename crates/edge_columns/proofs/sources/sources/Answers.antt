use Rattle.std.proofs.Common.{refl, ◌∙◌, arith}
use Rattle.edge_columns.proofs.SourceLaws.{sources_by-more}
use Rattle.edge_columns.proofs.sources.sources.Goals as goal

pub loop-node-preserved : goal.loop-node-preserved
loop-node-preserved c =
    let old = c.loop-node.sources in
    c.in_ok-resize.ensures.items
    ∙ sources_by-more c.args.starts.now c.loop-node.node _ old.len old.items (omega arith) c.requires.begins c.requires.rising refl (omega (arith, old.ok.0)) c.loop-node.invariant
