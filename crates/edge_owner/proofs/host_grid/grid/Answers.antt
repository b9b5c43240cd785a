use Rattle.std.proofs.Common.{arith}
use Rattle.edge_owner.proofs.Columns.{columns_positive, IsGrid-columns_of}
use Rattle.edge_owner.proofs.host_grid.grid.Goals as goal

pub nonzero_div-result : goal.nonzero_div-result
nonzero_div-result c = omega (arith, columns_positive c.args.hosts c.requires.some_host)

pub returns-clause-grid : goal.returns-clause-grid
returns-clause-grid c = rw c.columns-columns.ensures (IsGrid-columns_of c.args.hosts c.requires.some_host)
