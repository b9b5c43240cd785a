use Rattle.std.proofs.Common.{◌<◌, ◌≤◌, length, arith}
use Rattle.gr_reader.proofs.HeadLaws.{head_taken}
use Rattle.gr_reader.proofs.head.take_head.Goals as goal

pub returns-clause-means : goal.returns-clause-means
returns-clause-means g c =
    let got = c.in_ok-bytes.bytes.now in
    let within : length got ≤ 32 = omega (arith, c.in_ok-bytes.ensures.count) in
    head_taken _ _ got c.parsed_head.result c.in_ok-bytes.ensures.bytes within (λ (short : length got < 32). c.in_ok-bytes.ensures.end (omega arith)) c.parsed_head.ensures.means
