use Rattle.host_fields.proofs.Pushing.{AreFirst}
use Rattle.host_fields.proofs.StartItems.{IsStartItem}
use Rattle.host_fields.proofs.starting.start_items.Given as goal

-- the items of the proxies so far
abbrev pub invariant-loop-lid : goal.invariant-loop-lid
invariant-loop-lid g l = AreFirst (IsStartItem g.P.Red.Item.Word.IsValue g.P.Red.Reduction.reducer (g.P.VertexProgram.steps l.program) l.masters l.shown) l.lid l.items.items
