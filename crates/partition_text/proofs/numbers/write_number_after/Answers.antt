use Rattle.io_edge.proofs.Writings.{WroteBy-++}
use Rattle.partition_text.proofs.numbers.write_number_after.Goals as goal

pub returns : goal.returns
returns g c =
    let before = rw c.as_bytes.ensures.value at c.in_ok-write_whole.ensures.written.all in
    record { written = WroteBy-++ before c.write_number.ensures.written }
