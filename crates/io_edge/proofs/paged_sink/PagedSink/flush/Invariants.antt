use Rattle.std.proofs.Common.{◌≡◌, ◌-◌, ◌++◌, List, ℕ}
use Rattle.io_edge.specs.Writing.{WroteAll, state_of}
use Rattle.io_edge.specs.Paged.{waiting}
use Rattle.io_edge.proofs.paged_sink.PagedSink.flush.Given as goal

-- what waited was passed on up to what still waits
abbrev pub invariant-loop-self : goal.invariant-loop-self
invariant-loop-self g l = record {
  same_reference : l.self.below.ghost_name ≡ l.initial.self.below.ghost_name;
  passed : (done : List ℕ) × (done ++ waiting l.self ≡ waiting l.initial.self) × WroteAll (state_of g.K.Sink l.initial.self.below.now) (state_of g.K.Sink l.self.below.now) done;
}

abbrev pub decreases-loop-self : goal.decreases-loop-self
decreases-loop-self g l = l.self.end - l.self.first
