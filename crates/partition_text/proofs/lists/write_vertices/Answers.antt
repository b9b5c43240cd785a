use Rattle.std.proofs.Common.{get_or, codes, ap, refl}
use Rattle.io_edge.proofs.Writings.{WroteBy-err}
use Rattle.answer_writer.specs.Lines.{spaced_number}
use Rattle.partition_text.specs.Hosts.{number_after}
use Rattle.io_edge.proofs.Texts.{all_as, front_as, WroteAll-texts, WroteFront-texts}
use Rattle.partition_text.proofs.lists.write_vertices.Goals as goal

pub loop-vertex-preserved : goal.loop-vertex-preserved
loop-vertex-preserved g c =
    let vertex = get_or c.args.vertices.now c.loop-vertex.vertex-index 0 in
    WroteAll-texts spaced_number c.args.vertices.now c.loop-vertex.vertex-index vertex 0 c.loop-vertex-test.true refl
    c.loop-vertex.invariant (all_as (ap (number_after (codes " ")) c.from.ensures) c.in_ok-write_number_after.ensures.written.all)

pub returns-in_err-write_number_after : goal.returns-in_err-write_number_after
returns-in_err-write_number_after g c =
    let vertex = get_or c.args.vertices.now c.loop-vertex.vertex-index 0 in
    record {
      written = WroteBy-err c.from_residual.ensures.0
          (WroteFront-texts spaced_number c.args.vertices.now c.loop-vertex.vertex-index vertex 0 c.loop-vertex-test.true refl
          c.loop-vertex.invariant (front_as (ap (number_after (codes " ")) c.from.ensures) c.in_err-write_number_after.ensures.written.front));
    }
