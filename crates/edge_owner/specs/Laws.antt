-- Laws of owners.
use Rattle.std.specs.Prelude.{◌≡◌, ℕ, ◌<◌}
use Rattle.edge_owner.specs.Grid.{row_of, column_of}
use Rattle.edge_owner.specs.Owner.{owner_of}
use Rattle.edge_owner.specs.declared.owner_rule.OwnerRule.{OwnerRule}
use Rattle.edge_owner.specs.declared.owner_rule.OwnerRule.TheVariants.{Cartesian}

-- the owner of an edge is a host
abbrev pub OwnersAreHosts : Type 0
OwnersAreHosts =
    (rule : OwnerRule) (hosts ms md outdegree : ℕ) →
    ms < hosts → md < hosts → owner_of rule hosts ms md outdegree < hosts

-- by the grid an edge's owner is in the row of the source's master and in the column of the destination's
abbrev pub OwnersCross : Type 0
OwnersCross =
    (hosts ms md outdegree : ℕ) → 0 < hosts →
    let owner = owner_of Cartesian hosts ms md outdegree in
    (row_of hosts owner ≡ row_of hosts ms) × (column_of hosts owner ≡ column_of hosts md)

-- By the grid a host that owns an edge out of a vertex and an edge into it is the vertex's master. `m` is
-- that master, `to` the master at the other end of the edge out, and `from` that of the edge in.
abbrev pub BothWaysIsMaster : Type 0
BothWaysIsMaster =
    (hosts host m to from outdegree other_outdegree : ℕ) →
    m < hosts →
    owner_of Cartesian hosts m to outdegree ≡ host →
    owner_of Cartesian hosts from m other_outdegree ≡ host →
    host ≡ m
