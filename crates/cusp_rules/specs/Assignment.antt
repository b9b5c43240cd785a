-- Hosts, and the vertices that each of them is master of.
use Rattle.std.specs.Prelude.{ℕ, ◌<◌, ◌≤◌, List, length, All}
use Rattle.std.specs.List.Sorted.{IsNonDecreasing}
use Rattle.cusp_rules.specs.Hosts.{IsHostCount}

-- so many hosts, and the master of each vertex, by the vertex's number
pub record Assignment : Type 0 where
  pub hosts : ℕ
  pub masters : List ℕ

-- what holds of every assignment
pub record IsAssignment (assignment : Assignment) : Type 0 where
  pub hosts_fit : IsHostCount assignment.hosts
  pub vertices_fit : length assignment.masters ≤ 268_435_456
  -- each master is a host
  pub on_hosts : All (λ master. master < assignment.hosts) assignment.masters
  -- a host's vertices lie side by side, after those of the hosts below it
  pub contiguous : IsNonDecreasing assignment.masters
