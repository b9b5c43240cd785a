use Rattle.std.proofs.Common.{◌≡◌, ◌<◌, ◌++◌, ◌+◌, ℕ, List, length, map, take, drop, get_or, slice_set, sym, ap, subst, ◌∙◌, arith, below_more, append-nil}
use Rattle.std.specs.List.{sum_by}
use Rattle.std.proofs.lemmas.List.{get_or_default, get_or-map, take_all, drop_all}
use Rattle.std.proofs.lemmas.List.Edits.{map_over_more}
use Rattle.std.proofs.lemmas.List.Sums.{sum_by_more, sum_by_more_le}
use Rattle.cluster_laws.specs.Tally.{woken}
use Rattle.host_state.specs.HostState.{HostState, IsHost}
use Rattle.host_state.specs.OwnEffects.{is_ready_to_close}
use Rattle.round_driver.specs.Closing.{closed_host}
use Rattle.round_driver.proofs.Closed.{still_there}
use Rattle.round_driver.proofs.closing.close_all.Goals as goal

pub close_one-woken-requires : goal.close_one-woken-requires
close_one-woken-requires g c =
    let there = still_there closed_host c.args.hosts.now c.loop-number.hosts c.loop-number.number c.index-hosts-number.result c.loop-number-test.true c.loop-number.invariant.closed in
    ap is_ready_to_close there ∙ c.requires.ready c.loop-number.number c.index-hosts-number.result c.loop-number-test.true

pub overflow_add-woken : goal.overflow_add-woken
overflow_add-woken g c =
    let there = still_there closed_host c.args.hosts.now c.loop-number.hosts c.loop-number.number c.index-hosts-number.result c.loop-number-test.true c.loop-number.invariant.closed in
    let same = c.close_one-woken.ensures.woken ∙ ap (λ (host : HostState g.row.P.Denot g.row.P-Red-Item.Denot g.row.P-State.Denot g.row.P-Shown.Denot). woken host.view) there in
    let part = sum_by_more_le (λ (host : HostState g.row.P.Denot g.row.P-Red-Item.Denot g.row.P-State.Denot g.row.P-Shown.Denot). woken host.view) c.args.hosts.now c.loop-number.number c.index-hosts-number.result c.loop-number-test.true in
    let so_far = c.loop-number.invariant.counted in
    let few = c.requires.few in
    omega arith

pub loop-number-preserved : goal.loop-number-preserved
loop-number-preserved g c =
    let there = still_there closed_host c.args.hosts.now c.loop-number.hosts c.loop-number.number c.index-hosts-number.result c.loop-number-test.true c.loop-number.invariant.closed in
    record {
      closed =
          ap (slice_set c.loop-number.hosts c.loop-number.number) (c.close_one-woken.ensures.closed ∙ ap closed_host (sym c.index-hosts-number.is))
          ∙ map_over_more closed_host c.args.hosts.now c.loop-number.hosts c.loop-number.number c.index-hosts-number.result c.loop-number-test.true c.loop-number.invariant.closed c.index-hosts-number.is;
      counted =
          ap (λ n. n + c.close_one-woken.result) c.loop-number.invariant.counted
          ∙ ap (λ n. sum_by (λ (host : HostState g.row.P.Denot g.row.P-Red-Item.Denot g.row.P-State.Denot g.row.P-Shown.Denot). woken host.view) (take c.loop-number.number c.args.hosts.now) + n)
          (c.close_one-woken.ensures.woken ∙ ap (λ (host : HostState g.row.P.Denot g.row.P-Red-Item.Denot g.row.P-State.Denot g.row.P-Shown.Denot). woken host.view) there)
          ∙ sym (sum_by_more (λ (host : HostState g.row.P.Denot g.row.P-Red-Item.Denot g.row.P-State.Denot g.row.P-Shown.Denot). woken host.view) c.args.hosts.now c.loop-number.number c.index-hosts-number.result c.loop-number-test.true);
      facts =
          let Closed : ℕ → Type 0 = λ k. (d : HostState g.row.P.Denot g.row.P-Red-Item.Denot g.row.P-State.Denot g.row.P-Shown.Denot) → IsHost (closed_host (get_or c.args.hosts.now k d)) in
          let all = below_more Closed c.loop-number.number (λ k less d. c.loop-number.invariant.facts k d less)
          (λ d. subst (λ (host : HostState g.row.P.Denot g.row.P-Red-Item.Denot g.row.P-State.Denot g.row.P-Shown.Denot). IsHost host)
          (c.close_one-woken.ensures.closed ∙ ap closed_host (there ∙ get_or_default c.args.hosts.now c.loop-number.number c.index-hosts-number.result d c.loop-number-test.true)) c.close_one-woken.ensures.facts) in
          λ k d less. all k less d;
    }

pub returns : goal.returns
returns g c =
    let late = c.loop-number-test.false in
    let closed : c.loop-number.hosts ≡ map closed_host c.args.hosts.now
    = c.loop-number.invariant.closed
    ∙ ap (λ (l : List (HostState g.row.P.Denot g.row.P-Red-Item.Denot g.row.P-State.Denot g.row.P-Shown.Denot)). map closed_host l ++ drop c.loop-number.number c.args.hosts.now) (take_all c.loop-number.number c.args.hosts.now late)
    ∙ ap (λ (l : List (HostState g.row.P.Denot g.row.P-Red-Item.Denot g.row.P-State.Denot g.row.P-Shown.Denot)). map closed_host c.args.hosts.now ++ l) (drop_all c.loop-number.number c.args.hosts.now late)
    ∙ append-nil (map closed_host c.args.hosts.now) in
    record {
      closed = closed;
      woken = c.loop-number.invariant.counted ∙ ap (sum_by (λ (host : HostState g.row.P.Denot g.row.P-Red-Item.Denot g.row.P-State.Denot g.row.P-Shown.Denot). woken host.view)) (take_all c.loop-number.number c.args.hosts.now late);
      facts = λ k d within.
          let same = c.loop-number.auto.hosts in
          let below : k < length c.args.hosts.now = omega arith in
          subst (λ (host : HostState g.row.P.Denot g.row.P-Red-Item.Denot g.row.P-State.Denot g.row.P-Shown.Denot). IsHost host)
          (sym (ap (λ (l : List (HostState g.row.P.Denot g.row.P-Red-Item.Denot g.row.P-State.Denot g.row.P-Shown.Denot)). get_or l k d) closed ∙ get_or-map closed_host c.args.hosts.now k d d below))
          (c.loop-number.invariant.facts k d (omega arith));
    }
