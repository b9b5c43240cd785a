use Rattle.std.specs.Prelude.{◌≡◌, ◌<◌, ◌≤◌, length, false, slice_index}
use Rattle.std.proofs.Common.{arith, ap, ◌∙◌}
use Rattle.list_laws.specs.Members.{has_member}
use Rattle.packet_table.specs.Table.{rooms_of}
use Rattle.packet_table.proofs.Flights.{posted_count, laid_posted}
use Rattle.packet_table.proofs.channels.Channels.post.Goals as goal

pub overflow_add-self : goal.overflow_add-self
overflow_add-self c =
    let f = c.self.inside in
    let known : c.args.id < length f.specs.items = omega (arith, ap (λ t. length t.specs) c.self.view_is) in
    let resting : has_member f.flying c.args.id ≡ false = ap (λ t. has_member t.flying c.args.id) c.self.view_is ∙ c.requires.resting in
    omega (arith, (posted_count f.specs.items f.starts.items f.lengths.items f.block.items f.flying f.flying_count c.self.invariant c.args.id known resting).1)

pub invariant_of-self : goal.invariant_of-self
invariant_of-self c =
    let f = c.self.inside in
    let known : c.args.id < length f.specs.items = omega (arith, ap (λ t. length t.specs) c.self.view_is) in
    let resting : has_member f.flying c.args.id ≡ false = ap (λ t. has_member t.flying c.args.id) c.self.view_is ∙ c.requires.resting in
    let fits : c.args.len ≤ slice_index (rooms_of f.specs.items) c.args.id = omega (arith, c.requires.fits, ap (λ t. slice_index (rooms_of t.specs) c.args.id) c.self.view_is) in
    rw c.set.ensures (laid_posted f.specs.items f.starts.items f.lengths.items f.block.items f.flying f.flying_count c.self.invariant c.args.id c.args.len known resting fits)
