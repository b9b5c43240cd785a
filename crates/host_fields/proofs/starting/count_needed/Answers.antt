use Rattle.std.proofs.Common.{◌≡◌, ◌+◌, ℕ, Bool, cond, true, false, not, sym, ap, ◌∙◌, arith}
use Rattle.cluster_laws.specs.Channels.{is_needed}
use Rattle.address_memo.specs.Kinds.{list_for}
use Rattle.host_fields.proofs.Needed.{is_needed_is, count_range_more}
use Rattle.host_fields.proofs.starting.count_needed.Goals as goal
use Rattle.host_fields.proofs.starting.count_needed.Goals.{then-not-is_empty, else-not-is_empty}

pub loop-peer-preserved : goal.loop-peer-preserved
loop-peer-preserved c =
    let peer = c.loop-peer.peer in
    let p : ℕ → Bool = λ peer. is_needed (list_for c.args.memo.now c.args.kind peer).globals in
    let globals = c.globals.ensures.globals ∙ ap (λ list. list.globals) c.list.ensures.list in
    let here : p c.loop-peer.peer ≡ not c.is_empty.result = sym (ap is_needed globals) ∙ is_needed_is c.globals.result.now ∙ ap not (sym c.is_empty.ensures) in
    let few = c.loop-peer.invariant.few in
    let adds : (empty : Bool) → c.is_empty.result ≡ empty → c.loop-peer.count + cond (not empty) 1 0 ≡ c.loop-peer.count + cond (p c.loop-peer.peer) 1 0
    = λ empty is. ap (λ b. c.loop-peer.count + cond b 1 0) (sym (here ∙ ap not is)) in
    elim c.if-not-is_empty.branch [
      | then-not-is_empty w ↦ record {
        count = count_range_more p c.loop-peer.peer c.loop-peer.count c.if-not-is_empty.count c.loop-peer.invariant.count (w.count-is ∙ adds false w.if-not-is_empty.true);
        few = omega (arith, w.count-is);
      }
      | else-not-is_empty w ↦ record {
        count = count_range_more p c.loop-peer.peer c.loop-peer.count c.if-not-is_empty.count c.loop-peer.invariant.count (w.count-is ∙ (omega arith) ∙ adds true w.if-not-is_empty.false);
        few = omega (arith, w.count-is);
      }
    ]
