use Rattle.std.specs.Prelude.{◌+◌, ◌-◌, ◌<◌, length, take, drop}
use Rattle.std.proofs.Common.{arith, ap, ◌∙◌}
use Rattle.packet_table.specs.Table.{payload_of}
use Rattle.packet_table.proofs.Holding.{payload_lies}
use Rattle.packet_table.proofs.channels.Channels.payload.Goals as goal

pub overflow_add-end : goal.overflow_add-end
overflow_add-end c =
    let f = c.self.inside in
    let known : c.args.id < length f.specs.items = omega (arith, ap (λ t. length t.specs) c.self.view_is) in
    let lies = payload_lies f.specs.items f.starts.items f.lengths.items f.block.items f.flying f.flying_count c.self.invariant c.args.id _ _ known c.index-start.ensures c.index.ensures in
    omega (arith, f.block.small, f.block.ok.0, lies.0)

pub slice_bounds-result-end : goal.slice_bounds-result-end
slice_bounds-result-end c =
    let f = c.self.inside in
    let known : c.args.id < length f.specs.items = omega (arith, ap (λ t. length t.specs) c.self.view_is) in
    let lies = payload_lies f.specs.items f.starts.items f.lengths.items f.block.items f.flying f.flying_count c.self.invariant c.args.id _ _ known c.index-start.ensures c.index.ensures in
    omega (arith, ap length c.deref.ensures.value, lies.0)

pub returns-clause-payload : goal.returns-clause-payload
returns-clause-payload c =
    let f = c.self.inside in
    let known : c.args.id < length f.specs.items = omega (arith, ap (λ t. length t.specs) c.self.view_is) in
    let lies = payload_lies f.specs.items f.starts.items f.lengths.items f.block.items f.flying f.flying_count c.self.invariant c.args.id _ _ known c.index-start.ensures c.index.ensures in
    let start = c.index-start.result.now in
    let end = start + c.index.result.now in
    ap (λ l. take (end - start) (drop start l)) c.deref.ensures.value ∙ lies.1 ∙ ap (λ t. payload_of t c.args.id) c.self.view_is
