use Rattle.std.proofs.Common.{◌≡◌, ◌≤◌, ◌-◌, length}
use Rattle.host_fields.proofs.MastersSettle.{AreSettledBelow, AreValues}
use Rattle.host_fields.proofs.settling.settle_news.Given as goal

-- the masters below the place have settled, and all others are as they were
abbrev pub invariant-loop-local : goal.invariant-loop-local
invariant-loop-local g l = record {
  inside : l.from ≤ l.masters;
  settled : AreSettledBelow g.P.Red.Reduction.reducer (g.P.VertexProgram.steps l.program) l.masters l.shown
      (record { states = l.initial.states; items = l.initial.items; next = l.initial.next; awake = l.initial.awake_next }) l.from
      (record { states = l.states; items = l.items; next = l.next; awake = l.awake_next });
  values : AreValues g.P.Red.Item.Word.IsValue g.P.Shown.Word.IsValue g.P.VertexProgram.IsState
      (record { states = l.states; items = l.items; next = l.next; awake = l.awake_next });
  awake_length : length l.awake_next ≡ length l.initial.awake_next;
}

abbrev pub decreases-loop-local : goal.decreases-loop-local
decreases-loop-local g l = l.masters - l.from
