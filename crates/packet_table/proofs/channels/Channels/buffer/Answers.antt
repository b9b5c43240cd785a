use Rattle.std.specs.Prelude.{◌≡◌, ◌<◌, length, slice_get, slice_index, Some, refl}
use Rattle.std.proofs.Common.{arith, ap, ◌∙◌, sym}
use Rattle.packet_table.specs.Table.{rooms_of, written, with_buffer}
use Rattle.packet_table.proofs.Holding.{buffer_lies, table_of-written, written_one}
use Rattle.packet_table.proofs.channels.Channels.buffer.Goals as goal

pub overflow_add-end : goal.overflow_add-end
overflow_add-end c =
    let f = c.self.inside in
    let known : c.args.id < length f.specs.items = omega (arith, ap (λ t. length t.specs) c.self.view_is) in
    let lies = buffer_lies f.specs.items f.starts.items f.lengths.items f.block.items f.flying f.flying_count c.self.invariant c.args.id _ _ known c.index-start.ensures c.index.ensures in
    omega (arith, f.block.small, f.block.ok.0, lies.1)

pub slice_mut-requires-clause-in_bounds : goal.slice_mut-requires-clause-in_bounds
slice_mut-requires-clause-in_bounds c =
    let f = c.self.inside in
    let known : c.args.id < length f.specs.items = omega (arith, ap (λ t. length t.specs) c.self.view_is) in
    let lies = buffer_lies f.specs.items f.starts.items f.lengths.items f.block.items f.flying f.flying_count c.self.invariant c.args.id _ _ known c.index-start.ensures c.index.ensures in
    omega (arith, f.block.ok.0, lies.1)

pub returns : goal.returns
returns c =
    let f = c.self.inside in
    let id = c.args.id in
    let start = c.index-start.result.now in
    let room = c.index.result.now.room in
    let known : id < length f.specs.items = omega (arith, ap (λ t. length t.specs) c.self.view_is) in
    let lies = buffer_lies f.specs.items f.starts.items f.lengths.items f.block.items f.flying f.flying_count c.self.invariant id _ _ known c.index-start.ensures c.index.ensures in
    let long : length c.slice_mut.result.now ≡ room = ap length c.slice_mut.ensures.value ∙ lies.3 in (
      (refl, λ w. table_of-written f.specs.items f.starts.items f.lengths.items f.block.items f.flying f.flying_count c.self.invariant id start f.block.len w known f.block.ok.0 c.index-start.ensures ∙ ap (λ t. written t id w) c.self.view_is),
      record {
        writes_back = tt;
        value = ap (λ t. slice_get t.buffers id) (sym c.self.view_is) ∙ lies.2 ∙ ap Some (sym c.slice_mut.ensures.value);
        room = long ∙ lies.0 ∙ ap (λ t. slice_index (rooms_of t.specs) id) c.self.view_is;
        others_stay = λ bytes e.
            let one = written_one f.specs.items f.starts.items f.lengths.items f.block.items f.flying f.flying_count c.self.invariant id bytes known (e ∙ long ∙ lies.0) in
            ap (λ t. written t id bytes) (sym c.self.view_is) ∙ one ∙ ap (λ t. with_buffer t id bytes) c.self.view_is;
      },
    )
