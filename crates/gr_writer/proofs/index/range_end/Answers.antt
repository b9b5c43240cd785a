use Rattle.std.proofs.Common.{arith}
use Rattle.std.proofs.lemmas.Option.{slice_get-get_or}
use Rattle.gr_writer.proofs.Ends.{end_of-yes, end_of-no}
use Rattle.gr_writer.proofs.index.range_end.Goals as goal

pub loop-end-preserved : goal.loop-end-preserved
loop-end-preserved c =
    omega (
      arith,
      end_of-yes c.args.edges.now c.args.node c.loop-end.end _ c.requires.sorted
          (slice_get-get_or c.args.edges.now c.loop-end.end _ (omega arith)) c.if-edges-end.true,
    )

pub returns-else-edges-end : goal.returns-else-edges-end
returns-else-edges-end c =
    omega (
      arith,
      c.loop-end.invariant,
      end_of-no c.args.edges.now c.args.node c.loop-end.end _ c.requires.sorted
          (slice_get-get_or c.args.edges.now c.loop-end.end _ (omega arith)) c.if-edges-end.false,
    )
