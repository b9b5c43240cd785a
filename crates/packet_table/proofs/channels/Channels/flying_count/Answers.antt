use Rattle.list_laws.proofs.Members.{IsStrictlyIncreasing-members_from}
use Rattle.packet_table.proofs.channels.Channels.flying_count.Goals as goal

pub returns-clause-rising : goal.returns-clause-rising
returns-clause-rising c = IsStrictlyIncreasing-members_from 0 c.args.self.now.flying
