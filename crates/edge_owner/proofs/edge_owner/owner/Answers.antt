use Rattle.std.proofs.Common.{arith}
use Rattle.edge_owner.proofs.Columns.{columns_positive}
use Rattle.edge_owner.proofs.Places.{crossing_below}
use Rattle.edge_owner.proofs.edge_owner.owner.Goals as goal

pub nonzero_div-result : goal.nonzero_div-result
nonzero_div-result c = omega (arith, columns_positive c.args.hosts c.requires.hosts.some_host)

pub nonzero_rem-result : goal.nonzero_rem-result
nonzero_rem-result c = omega (arith, columns_positive c.args.hosts c.requires.hosts.some_host)

pub returns-in-Cartesian-clause-host : goal.returns-in-Cartesian-clause-host
returns-in-Cartesian-clause-host c = rw c.columns-columns.ensures (crossing_below c.args.hosts c.args.ms c.args.md c.requires.source)
