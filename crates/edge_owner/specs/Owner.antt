-- The host that owns an edge, told by the masters of the edge's ends.
use Rattle.std.specs.Prelude.{ℕ, nat_lt, if◌then◌else◌}
use Rattle.edge_owner.specs.Grid.{row_of, column_of, host_in}
use Rattle.edge_owner.specs.declared.owner_rule.OwnerRule.{OwnerRule}
use Rattle.edge_owner.specs.declared.owner_rule.OwnerRule.TheVariants.{Source, Dest, Hybrid, Cartesian}

-- `ms` is the source's master, `md` the destination's, and `outdegree` how many out-edges the source has
abbrev pub owner_of : OwnerRule → ℕ → ℕ → ℕ → ℕ → ℕ
owner_of Source hosts ms md outdegree = ms
owner_of Dest hosts ms md outdegree = md
owner_of (Hybrid threshold) hosts ms md outdegree = if nat_lt threshold outdegree then md else ms
owner_of Cartesian hosts ms md outdegree = host_in hosts (row_of hosts ms) (column_of hosts md)
