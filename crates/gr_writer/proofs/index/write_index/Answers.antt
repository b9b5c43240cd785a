use Rattle.std.proofs.Common.{◌≡◌, ◌∙◌, sym, map, take, arith, w64}
use Rattle.std.specs.List.{range_with_len}
use Rattle.std.proofs.lemmas.List.{take_all}
use Rattle.std.proofs.lemmas.List.FromFn.{get_or-map-range_with_len, length-map-range_with_len}
use Rattle.list_laws.proofs.WholeNumbers.{to_le_bytes-le}
use Rattle.io_edge.proofs.Writings.{WroteAll-[], WroteBy-err}
use Rattle.gr_writer.specs.File.{end_of}
use Rattle.gr_writer.proofs.Ends.{end_of-next}
use Rattle.gr_writer.proofs.Parts.{WroteAll-number, WroteFront-number}
use Rattle.gr_writer.proofs.index.write_index.Goals as goal

pub loop-node-init : goal.loop-node-init
loop-node-init g c = record { written = WroteAll-[] _; before = omega arith }

pub returns-in_err-write_whole : goal.returns-in_err-write_whole
returns-in_err-write_whole g c =
    let f = end_of c.args.edges.now in
    let v = c.loop-node.node in
    WroteBy-err c.from_residual.ensures.0 (WroteFront-number 8 (map f (range_with_len 0 c.args.nodes)) v c.range_end-end.result _ (omega (arith, length-map-range_with_len f 0 c.args.nodes))
    (c.range_end-end.ensures ∙ sym (get_or-map-range_with_len f 0 c.args.nodes v v 0 (omega arith) (omega arith))) (c.to_le_bytes.ensures ∙ to_le_bytes-le w64 _) c.loop-node.invariant.written c.in_err-write_whole.ensures.written.front)

pub loop-node-preserved : goal.loop-node-preserved
loop-node-preserved g c =
    let f = end_of c.args.edges.now in
    let v = c.loop-node.node in
    record {
      written = WroteAll-number 8 (map f (range_with_len 0 c.args.nodes)) v c.range_end-end.result _ (omega (arith, length-map-range_with_len f 0 c.args.nodes))
          (c.range_end-end.ensures ∙ sym (get_or-map-range_with_len f 0 c.args.nodes v v 0 (omega arith) (omega arith))) (c.to_le_bytes.ensures ∙ to_le_bytes-le w64 _) c.loop-node.invariant.written c.in_ok-write_whole.ensures.written.all;
      before = omega (arith, c.range_end-end.ensures, end_of-next c.args.edges.now v);
    }

pub returns : goal.returns
returns g c =
    let f = end_of c.args.edges.now in
    let xs = map f (range_with_len 0 c.args.nodes) in
    let e : take c.loop-node.node xs ≡ xs = take_all c.loop-node.node xs (omega (arith, length-map-range_with_len f 0 c.args.nodes)) in
    record { all = rw (← e) c.loop-node.invariant.written; front = tt }
