use Rattle.std.specs.Prelude.{length, ◌<◌}
use Rattle.std.proofs.Common.{subst}
use Rattle.list_laws.specs.Members.{IsMember}
use Rattle.packet_table.proofs.Flights.{taken_within, taken_flies}
use Rattle.packet_table.proofs.channels.Channels.flying.Goals as goal

pub returns-clause-flies : goal.returns-clause-flies
returns-clause-flies c =
    let f = c.self.inside in
    subst (λ t. IsMember t.flying c.nth.result) c.self.view_is
    (taken_flies f.specs.items f.starts.items f.lengths.items f.block.items f.flying f.flying_count c.self.invariant c.args.place c.nth.result c.nth.ensures)

pub returns-clause-known : goal.returns-clause-known
returns-clause-known c =
    let f = c.self.inside in
    subst (λ t. c.nth.result < length t.specs) c.self.view_is
    (taken_within f.specs.items f.starts.items f.lengths.items f.block.items f.flying f.flying_count c.self.invariant c.args.place c.nth.result c.nth.ensures)
