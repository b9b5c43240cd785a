use Rattle.std.proofs.Common.{◌≤◌, ◌+◌, ◌-◌, ◌++◌, List, ℕ, take, drop, ap, ◌∙◌, arith, append_assoc, length-take}
use Rattle.std.specs.List.{slice_range}
use Rattle.io_edge.specs.Writing.{WroteAll, WroteFront, state_of}
use Rattle.io_edge.specs.Paged.{waiting}
use Rattle.io_edge.proofs.Writings.{WroteAll-++, WroteFront-++, WroteFront-none, WroteBy-err}
use Rattle.io_edge.proofs.Pages.{part-front}
use Rattle.io_edge.proofs.paged_sink.PagedSink.flush.Goals as goal

pub returns-in_err-self-clause-below : goal.returns-in_err-self-clause-below
returns-in_err-self-clause-below g c =
    let sent = c.loop-self.invariant.passed in
    let after = state_of g.K.Sink c.write.new.self in
    let failed : WroteFront (state_of g.K.Sink c.loop-self.self.below.now) after (waiting c.loop-self.self) =
    WroteFront-none _ c.in_err-self.ensures.held_stays c.in_err-self.ensures.rose c.in_err-self.ensures.passed in
    WroteBy-err c.from_residual.ensures.0 (rw (sent.1) at (WroteFront-++ sent.2 failed))

pub loop-self-preserved : goal.loop-self-preserved
loop-self-preserved g c =
    let self = c.loop-self.self in
    let sent = c.loop-self.invariant.passed in
    let n = c.in_ok-self.field-0 in
    let wrote = c.in_ok-self.ensures in
    let step : WroteAll (state_of g.K.Sink self.below.now) (state_of g.K.Sink c.write.new.self) (take n (waiting self)) =
    record { whole = wrote.gained; quiet = wrote.quiet; passed = wrote.passed } in
    let within : self.first + n ≤ self.end = omega (arith, wrote.count, length-take (self.end - self.first) (drop self.first self.page)) in
    record {
      same_reference = c.loop-self.invariant.same_reference;
      passed = (
        sent.0 ++ take n (waiting self),
        append_assoc sent.0 (take n (waiting self)) (slice_range self.page (self.first + n) self.end) ∙ ap (λ (xs : List ℕ). sent.0 ++ xs) (part-front self.page self.first self.end n within) ∙ sent.1,
        WroteAll-++ sent.2 step,
      );
    }
