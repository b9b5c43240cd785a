use Rattle.std.proofs.Common.{◌≡◌, ℕ, replicate, false, ap, sym, ◌∙◌, rules}
use Rattle.graph_model.specs.declared.edge.Way.{Way}
use Rattle.address_memo.specs.Memos.{opened}
use Rattle.address_memo.specs.Told.{kept_or, untold}
use Rattle.address_memo.proofs.BothWays.{opened_same}
use Rattle.address_memo.proofs.Opening.{opened_is, opened_are}
use Rattle.address_memo.proofs.memo.Memo.open.Goals as goal
use Rattle.address_memo.proofs.memo.Memo.open.Goals.{in-Both, in-Outward+in_ok-own_lists-in-Outward}

-- the lists of the mirrors that are read, or those that stand for them
kept : (c : goal.After-host) → (kept_or c.in_ok-reduce_to.reduce_to c.match-way.spread_from).items ≡ (opened c.args.way c.args.graph.now).spread_from
kept c =
    elim c.match-way.branch [
      | in-Both w ↦
          ap (λ kept. (kept_or c.in_ok-reduce_to.reduce_to kept).items) w.spread_from-is
          ∙ c.in_ok-reduce_to.ensures
          ∙ ap (λ (way : Way). (opened way c.args.graph.now).reduce_to) w.in-Both.is
          ∙ opened_same c.args.graph.now
          ∙ ap (λ (way : Way). (opened way c.args.graph.now).spread_from) (sym w.in-Both.is)
      | in-Outward+in_ok-own_lists-in-Outward w ↦
          ap (λ kept. (kept_or c.in_ok-reduce_to.reduce_to kept).items) w.spread_from-is ∙ w.in_ok-own_lists-in-Outward.ensures
    ]

-- nothing is told, and nothing is accepted
untold_all : (c : goal.After-host) → c.in_ok-told.told.items ≡ replicate c.args.graph.now.hosts untold
untold_all c = c.in_ok-told.ensures ∙ ap (λ (n : ℕ). replicate n untold) c.hosts-hosts.ensures.hosts

unmarked : (c : goal.After-host) → c.in_ok-accepted.accepted.items ≡ replicate c.args.graph.now.hosts false
unmarked c =
    let marks : c.in_ok-accepted.accepted.items ≡ replicate c.hosts-hosts.result false = search rules in
    marks ∙ ap (λ n. replicate n false) c.hosts-hosts.ensures.hosts

pub invariant_of-result : goal.invariant_of-result
invariant_of-result c =
    opened_are c.args.way c.args.graph.now c.hosts-hosts.ensures.facts c.host.result c.in_ok-reduce_to.reduce_to.items _ c.in_ok-told.told.items c.in_ok-accepted.accepted.items
    c.host.ensures.host c.in_ok-reduce_to.ensures (kept c) (untold_all c) (unmarked c)

pub returns : goal.returns
returns c =
    opened_is c.args.way c.args.graph.now c.hosts-hosts.ensures.facts c.host.result c.in_ok-reduce_to.reduce_to.items _ c.in_ok-told.told.items c.in_ok-accepted.accepted.items
    c.host.ensures.host c.in_ok-reduce_to.ensures (kept c) (untold_all c) (unmarked c)
