use Rattle.edge_owner.proofs.Table.{column_entry}
use Rattle.edge_owner.proofs.host_grid.columns.Goals as goal

pub returns : goal.returns
returns c = rw c.from.ensures (column_entry c.args.hosts c.requires.some_host c.requires.few_hosts)
