use Rattle.std.proofs.Common.{arith, ap, ◌∙◌, ◌≡◌, ◌∷◌, [], ◌++◌}
use Rattle.std.specs.Prelude.{slice_index, length}
use Rattle.packet_table.specs.Table.{rooms_of}
use Rattle.packet_table.proofs.Cuts.{no_channel, start_of-next, start_of-ends, rooms_of-at, length-rooms_of, starts_more}
use Rattle.packet_table.proofs.layout.lay_out.Goals as goal

pub overflow_add-len : goal.overflow_add-len
overflow_add-len c =
    let specs = c.args.specs.now in
    let id = c.loop-spec.spec-index in
    omega (arith, length-rooms_of specs, rooms_of-at specs id no_channel c.loop-spec-test.true, start_of-ends (rooms_of specs) id (omega (arith, length-rooms_of specs)))

pub loop-spec-preserved : goal.loop-spec-preserved
loop-spec-preserved c =
    let specs = c.args.specs.now in
    let id = c.loop-spec.spec-index in
    let starts = c.loop-spec.starts.items in
    let items = c.in_ok-push.ensures.items in
    let next = c.loop-spec.invariant.next in
    let many : length starts ≡ id = omega (arith, c.loop-spec.starts.ok.0) in
    record {
      next = omega (arith, rooms_of-at specs id no_channel c.loop-spec-test.true, start_of-next (rooms_of specs) id (omega (arith, length-rooms_of specs)));
      as_many = omega (arith, c.in_ok-push.ensures.len);
      at = λ k h.
          ap (λ l. slice_index l k) (items ∙ ap (λ n. starts ++ n ∷ []) next)
          ∙ starts_more (rooms_of specs) starts id many c.loop-spec.invariant.at k h;
    }
