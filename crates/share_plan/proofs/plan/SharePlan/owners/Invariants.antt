use Rattle.std.proofs.Common.{◌≡◌, ◌<◌, map, take}
use Rattle.std.specs.List.{All}
use Rattle.share_plan.specs.Plan.{owner_by}
use Rattle.share_plan.proofs.plan.SharePlan.owners.Given as goal

-- the owners of the edges so far
abbrev pub invariant-loop-edge : goal.invariant-loop-edge
invariant-loop-edge l = record {
  owners : l.owners.items ≡ map (owner_by l.self) (take l.edge-index l.edges);
  hosts : All (λ owner. owner < l.self.hosts) l.owners.items;
}
