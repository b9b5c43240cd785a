use Rattle.std.proofs.Common.{arith}
use Rattle.address_memo.proofs.Mirrors.{master_at, mirror_no_master, no_proxy_no_master}
use Rattle.address_memo.proofs.reading.master_of.Goals as goal

pub returns-then-lid-masters : goal.returns-then-lid-masters
returns-then-lid-masters c =
    let less = c.if-lid-masters.true in let is = c.masters.ensures.masters in
    master_at c.args.graph.now c.in_ok-lid.lid c.args.id (omega arith) c.in_ok-lid.ensures

pub returns-in_err-lid : goal.returns-in_err-lid
returns-in_err-lid c = rw c.from_residual.ensures (no_proxy_no_master c.args.graph.now c.args.id c.in_err-lid.ensures)

pub returns-else-lid-masters : goal.returns-else-lid-masters
returns-else-lid-masters c =
    let more = c.if-lid-masters.false in let is = c.masters.ensures.masters in
    mirror_no_master c.args.graph.now c.in_ok-lid.lid c.args.id (omega arith) c.in_ok-lid.ensures
