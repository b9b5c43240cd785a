use Rattle.std.proofs.Common.{◌≡◌, ℕ, length, map, take}
use Rattle.graph_model.specs.declared.edge.Edge.{Edge}
use Rattle.partition_build.specs.Rooms.{HandsOut}
use Rattle.partition_build.proofs.handing.hand_out.Given as goal

-- the edges so far are with their owners
abbrev pub invariant-loop-place : goal.invariant-loop-place
invariant-loop-place l = record {
  as_many : length l.rooms ≡ length l.initial.rooms;
  handed : (owner : Edge → ℕ) → l.owners ≡ map owner l.edges → HandsOut owner (take l.place l.edges) l.initial.rooms l.rooms;
}
