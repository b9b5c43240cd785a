use Rattle.std.proofs.Common.{◌≡◌, ◌<◌, ◌≤◌, false, length, slice_get, Some, subst, arith}
use Rattle.list_laws.specs.Among.{is_among}
use Rattle.graph_division.specs.Shares.{Share, masters_here, proxies_here}
use Rattle.run_answers.proofs.Masters.{elsewhere_behind, elsewhere_missing, master_before}
use Rattle.run_answers.proofs.vertex.master_here.Goals as goal

pub returns-in_err-lid : goal.returns-in_err-lid
returns-in_err-lid g c =
    let missing : is_among (proxies_here c.args.host.now.graph) c.args.v ≡ false
    = subst (λ (share : Share). is_among (proxies_here share) c.args.v ≡ false) c.graph.ensures.graph c.in_err-lid.ensures in
    rw c.from_residual.ensures (elsewhere_missing c.args.host.now.graph c.args.v c.requires missing)

pub returns-then-lid-masters : goal.returns-then-lid-masters
returns-then-lid-masters g c =
    let at : slice_get (proxies_here c.args.host.now.graph) c.in_ok-lid.lid ≡ Some c.args.v
    = subst (λ (share : Share). slice_get (proxies_here share) c.in_ok-lid.lid ≡ Some c.args.v) c.graph.ensures.graph c.in_ok-lid.ensures in
    let before : c.in_ok-lid.lid < length (masters_here c.args.host.now.graph)
    = subst (λ (share : Share). c.in_ok-lid.lid < length (masters_here share)) c.graph-2.ensures.graph (omega arith) in
    master_before c.args.host.now.graph c.in_ok-lid.lid c.args.v at before

pub returns-else-lid-masters : goal.returns-else-lid-masters
returns-else-lid-masters g c =
    let at : slice_get (proxies_here c.args.host.now.graph) c.in_ok-lid.lid ≡ Some c.args.v
    = subst (λ (share : Share). slice_get (proxies_here share) c.in_ok-lid.lid ≡ Some c.args.v) c.graph.ensures.graph c.in_ok-lid.ensures in
    let behind : length (masters_here c.args.host.now.graph) ≤ c.in_ok-lid.lid
    = subst (λ (share : Share). length (masters_here share) ≤ c.in_ok-lid.lid) c.graph-2.ensures.graph (omega arith) in
    elsewhere_behind c.args.host.now.graph c.in_ok-lid.lid c.args.v at behind
