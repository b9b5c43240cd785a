use Rattle.std.proofs.Common.{subst}
use Rattle.packet_table.specs.Table.{IsTable}
use Rattle.packet_table.proofs.Holding.{is_table}
use Rattle.packet_table.proofs.channels.Channels.count.Goals as goal

pub returns-clause-facts : goal.returns-clause-facts
returns-clause-facts c =
    let f = c.self.inside in
    subst IsTable c.self.view_is (is_table f.specs.items f.starts.items f.lengths.items f.block.items f.flying f.flying_count c.self.invariant)
