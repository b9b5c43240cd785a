use Rattle.std.proofs.Common.{◌≡◌, [], replicate}
use Rattle.partition_build.specs.Rooms.{contents}
use Rattle.partition_build.proofs.handing.empty_rooms.Given as goal

-- the rooms so far are empty
abbrev pub invariant-loop-count : goal.invariant-loop-count
invariant-loop-count l = contents l.rooms.items ≡ replicate l.count-index []
