use Rattle.std.specs.Prelude.{◌≡◌, length, sum, replicate}
use Rattle.std.proofs.Common.{arith, ap, ◌∙◌, subst}
use Rattle.list_laws.specs.Members.{no_members}
use Rattle.packet_table.specs.Table.{rooms_of}
use Rattle.packet_table.specs.Block.{AreStarts}
use Rattle.packet_table.proofs.Fresh.{table_of-fresh, laid_fresh}
use Rattle.packet_table.proofs.channels.Channels.new.Goals as goal

pub invariant_of-result : goal.invariant_of-result
invariant_of-result c =
    let specs = c.args.specs.items in
    let count : c.args.specs.len ≡ length specs = c.args.specs.ok.0 in
    let started = subst (λ l. AreStarts (rooms_of l) c.in_ok-layout.layout.starts.items) c.deref.ensures.value c.in_ok-layout.ensures.starts in
    let no_flight = c.in_ok-flying.ensures ∙ ap (λ n. no_members n) (c.len-2.ensures ∙ count) in
    let no_payload = c.in_ok-lengths.ensures.items_if_clones_equal (λ y e. e) ∙ ap (λ n. replicate n 0) (c.len.ensures ∙ count) in
    let zeros = c.in_ok-block.ensures.items_if_clones_equal (λ y e. e) ∙ ap (λ n. replicate n 0) (c.in_ok-layout.ensures.len ∙ ap (λ l. sum (rooms_of l)) c.deref.ensures.value) in
    laid_fresh specs c.in_ok-layout.layout.starts.items c.in_ok-lengths.lengths.items c.in_ok-block.block.items c.in_ok-flying.flying no_flight no_payload zeros
    c.requires.rise (omega (arith, c.requires.few)) c.requires.room started

pub returns : goal.returns
returns c =
    let specs = c.args.specs.items in
    let count : c.args.specs.len ≡ length specs = c.args.specs.ok.0 in
    let no_flight = c.in_ok-flying.ensures ∙ ap (λ n. no_members n) (c.len-2.ensures ∙ count) in
    let no_payload = c.in_ok-lengths.ensures.items_if_clones_equal (λ y e. e) ∙ ap (λ n. replicate n 0) (c.len.ensures ∙ count) in
    let zeros = c.in_ok-block.ensures.items_if_clones_equal (λ y e. e) ∙ ap (λ n. replicate n 0) (c.in_ok-layout.ensures.len ∙ ap (λ l. sum (rooms_of l)) c.deref.ensures.value) in
    table_of-fresh specs c.in_ok-layout.layout.starts.items c.in_ok-lengths.lengths.items c.in_ok-block.block.items c.in_ok-flying.flying no_flight no_payload zeros
