use Rattle.std.proofs.Common.{◌<◌, ◌≤◌, ◌-◌, ◌/◌, ◌+◌, ℕ, arith, subst}
use Rattle.address_memo.specs.Runs.{owner_at}
use Rattle.address_memo.proofs.Search.{at_first, upper_half, lower_half, found}
use Rattle.address_memo.proofs.own_lists.mirrors_from.Goals as goal

pub loop-low-init : goal.loop-low-init
loop-low-init c = at_first c.args.graph.now c.args.peer c.masters-low.result c.proxies-high.result c.masters-low.ensures.masters c.proxies-high.ensures.proxies

pub loop-low-preserved-then-master_of-peer : goal.loop-low-preserved-then-master_of-peer
loop-low-preserved-then-master_of-peer c =
    let test = c.loop-low-test.true in
    let middle : ℕ = c.loop-low.low + (c.loop-low.high - c.loop-low.low) / 2 in
    let less : owner_at c.args.graph.now middle < c.args.peer = subst (λ (n : ℕ). n < c.args.peer) c.master_of.ensures.master c.if-master_of-peer.true in
    upper_half c.args.graph.now c.hosts.ensures.facts c.args.peer c.loop-low.low c.loop-low.high middle c.loop-low.invariant (omega arith) (omega arith) less

pub loop-low-preserved : goal.loop-low-preserved
loop-low-preserved c =
    let test = c.loop-low-test.true in
    let middle : ℕ = c.loop-low.low + (c.loop-low.high - c.loop-low.low) / 2 in
    let more : c.args.peer ≤ owner_at c.args.graph.now middle = subst (λ (n : ℕ). c.args.peer ≤ n) c.master_of.ensures.master c.if-master_of-peer.false in
    lower_half c.args.graph.now c.hosts.ensures.facts c.args.peer c.loop-low.low c.loop-low.high middle c.loop-low.invariant (omega arith) (omega arith) more

pub returns : goal.returns
returns c = found c.args.graph.now c.args.peer c.loop-low.low c.loop-low.high c.loop-low.invariant (let done = c.loop-low-test.false in omega arith)
