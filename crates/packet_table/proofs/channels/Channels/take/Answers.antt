use Rattle.std.specs.Prelude.{length, ◌<◌}
use Rattle.std.proofs.Common.{arith, subst}
use Rattle.list_laws.specs.Members.{IsMember}
use Rattle.packet_table.proofs.Flights.{taken_within, taken_flies, laid_taken}
use Rattle.packet_table.proofs.channels.Channels.take.Goals as goal

pub clear-requires : goal.clear-requires
clear-requires c =
    let f = c.self.inside in
    omega (arith, c.self.invariant.flights, taken_within f.specs.items f.starts.items f.lengths.items f.block.items f.flying f.flying_count c.self.invariant c.args.place c.nth-id.result c.nth-id.ensures)

pub invariant_of-self : goal.invariant_of-self
invariant_of-self c =
    let f = c.self.inside in
    rw c.clear.ensures (laid_taken f.specs.items f.starts.items f.lengths.items f.block.items f.flying f.flying_count c.self.invariant c.args.place c.nth-id.result c.nth-id.ensures)

pub returns-clause-flew : goal.returns-clause-flew
returns-clause-flew c =
    let f = c.self.inside in
    subst (λ t. IsMember t.flying c.nth-id.result) c.self.view_is
    (taken_flies f.specs.items f.starts.items f.lengths.items f.block.items f.flying f.flying_count c.self.invariant c.args.place c.nth-id.result c.nth-id.ensures)

pub returns-clause-known : goal.returns-clause-known
returns-clause-known c =
    let f = c.self.inside in
    subst (λ t. c.nth-id.result < length t.specs) c.self.view_is
    (taken_within f.specs.items f.starts.items f.lengths.items f.block.items f.flying f.flying_count c.self.invariant c.args.place c.nth-id.result c.nth-id.ensures)
