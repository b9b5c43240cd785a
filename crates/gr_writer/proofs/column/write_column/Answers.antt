use Rattle.std.proofs.Common.{◌<◌, ◌∙◌, sym, length, arith, w32}
use Rattle.std.proofs.lemmas.List.{get_or-map, length-map}
use Rattle.list_laws.proofs.WholeNumbers.{to_le_bytes-le}
use Rattle.io_edge.proofs.Writings.{WroteAll-[], WroteBy-err}
use Rattle.gr_writer.specs.Column.{entry_of, entries_of}
use Rattle.gr_writer.proofs.Parts.{WroteAll-number, WroteFront-number}
use Rattle.gr_writer.proofs.column.write_column.Goals as goal

pub loop-edge-init : goal.loop-edge-init
loop-edge-init g c = WroteAll-[] _

pub returns-in_err-write_whole : goal.returns-in_err-write_whole
returns-in_err-write_whole g c =
    let xs = entries_of c.args.column c.args.edges.now in
    let i = c.loop-edge.edge-index in
    let h : i < length c.args.edges.now = omega arith in
    WroteBy-err c.from_residual.ensures.0 (WroteFront-number 4 xs i c.entry.result _ (omega (arith, length-map c.args.edges.now (entry_of c.args.column)))
    (c.entry.ensures ∙ sym (get_or-map (entry_of c.args.column) c.args.edges.now i _ 0 h)) (c.to_le_bytes.ensures ∙ to_le_bytes-le w32 _) c.loop-edge.invariant c.in_err-write_whole.ensures.written.front)

pub loop-edge-preserved : goal.loop-edge-preserved
loop-edge-preserved g c =
    let xs = entries_of c.args.column c.args.edges.now in
    let i = c.loop-edge.edge-index in
    let h : i < length c.args.edges.now = omega arith in
    WroteAll-number 4 xs i c.entry.result _ (omega (arith, length-map c.args.edges.now (entry_of c.args.column)))
    (c.entry.ensures ∙ sym (get_or-map (entry_of c.args.column) c.args.edges.now i _ 0 h)) (c.to_le_bytes.ensures ∙ to_le_bytes-le w32 _) c.loop-edge.invariant c.in_ok-write_whole.ensures.written.all
