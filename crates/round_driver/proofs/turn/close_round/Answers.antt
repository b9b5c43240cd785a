use Rattle.std.proofs.Common.{◌≡◌, ◌∙◌, ◌+◌, ap, sym, subst, refl, All, true, List, map, length, Vec}
use Rattle.std.specs.Prelude.{◌<◌}
use Rattle.std.specs.List.{sum_by}
use Rattle.std.specs.Vec.{with_items}
use Rattle.std.proofs.lemmas.List.{with_items_is}
use Rattle.cluster_laws.specs.Tally.{woken}
use Rattle.host_state.specs.HostState.{HostState, IsHost}
use Rattle.host_state.specs.OwnEffects.{is_ready_to_close}
use Rattle.round_driver.specs.Closing.{closed_host, closed_cluster}
use Rattle.round_driver.specs.ClusterState.{ClusterState}
use Rattle.round_driver.specs.Underway.{lasting}
use Rattle.round_driver.proofs.Clusters.{cluster_on, closed_last, cluster_with}
use Rattle.round_driver.proofs.turn.close_round.Goals as goal

pub close_all-woken-requires : goal.close_all-woken-requires
close_all-woken-requires g c =
    let same : c.deref_mut.result.now ≡ c.args.cluster.now.hosts = c.deref_mut.ensures.value ∙ ap (λ (cluster : ClusterState g.row.P.Denot g.row.P-Red-Item.Denot g.row.P-State.Denot g.row.P-Shown.Denot). cluster.hosts) c.cluster.view_is in
    record {
      ready = subst (λ (l : List (HostState g.row.P.Denot g.row.P-Red-Item.Denot g.row.P-State.Denot g.row.P-Shown.Denot)). All (λ host. is_ready_to_close host ≡ true) l) (sym same) c.requires.ready;
      few = subst (λ (l : List (HostState g.row.P.Denot g.row.P-Red-Item.Denot g.row.P-State.Denot g.row.P-Shown.Denot)). sum_by (λ host. woken host.view) l < 18446744073709551616) (sym same) c.requires.few;
    }

-- the hosts once they are closed
closed_hosts : {X Y : Type 0} (f : X → X) (before : Vec X Y) (lent closed : List X) → length closed ≡ length lent → length lent ≡ before.len → closed ≡ map f lent → lent ≡ before.items → (with_items before closed).items ≡ map f before.items
closed_hosts f before lent closed long same is value = with_items_is before closed (long ∙ same) ∙ is ∙ ap (map f) value

pub invariant_of-cluster : goal.invariant_of-cluster
invariant_of-cluster g c =
    let hosts = closed_hosts closed_host c.cluster.inside.hosts c.deref_mut.result.now c.close_all-woken.new.hosts c.close_all-woken.auto.hosts c.deref_mut.ensures.len c.close_all-woken.ensures.closed c.deref_mut.ensures.value in
    let new = with_items_is c.cluster.inside.hosts c.close_all-woken.new.hosts (c.close_all-woken.auto.hosts ∙ c.deref_mut.ensures.len) in
    cluster_on g.P.Red.Item.Word.WIDTH g.P.Shown.Word.WIDTH
    (record { program = c.cluster.inside.program; way = c.cluster.inside.way; round = c.cluster.inside.round; hosts = c.cluster.inside.hosts.items; table = c.cluster.inside.channels })
    (record { program = c.cluster.inside.program; way = c.cluster.inside.way; round = c.cluster.inside.round + 1; hosts = (with_items c.cluster.inside.hosts c.close_all-woken.new.hosts).items; table = c.cluster.inside.channels })
    c.cluster.invariant refl refl
    (ap (λ (l : List (HostState g.row.P.Denot g.row.P-Red-Item.Denot g.row.P-State.Denot g.row.P-Shown.Denot)). map lasting l) hosts ∙ closed_last c.cluster.inside.hosts.items)
    (subst (λ (l : List (HostState g.row.P.Denot g.row.P-Red-Item.Denot g.row.P-State.Denot g.row.P-Shown.Denot)). All IsHost l) (sym new) c.close_all-woken.ensures.facts)
    refl c.cluster.invariant.is_table

pub returns : goal.returns
returns g c =
    let hosts = closed_hosts closed_host c.cluster.inside.hosts c.deref_mut.result.now c.close_all-woken.new.hosts c.close_all-woken.auto.hosts c.deref_mut.ensures.len c.close_all-woken.ensures.closed c.deref_mut.ensures.value in
    let same : c.deref_mut.result.now ≡ c.args.cluster.now.hosts = c.deref_mut.ensures.value ∙ ap (λ (cluster : ClusterState g.row.P.Denot g.row.P-Red-Item.Denot g.row.P-State.Denot g.row.P-Shown.Denot). cluster.hosts) c.cluster.view_is in
    record {
      closed =
          ap (λ (l : List (HostState g.row.P.Denot g.row.P-Red-Item.Denot g.row.P-State.Denot g.row.P-Shown.Denot)). cluster_with c.cluster.inside.program c.cluster.inside.way (c.cluster.inside.round + 1) l c.cluster.inside.channels) hosts
          ∙ ap closed_cluster c.cluster.view_is;
      woken = c.close_all-woken.ensures.woken ∙ ap (λ (l : List (HostState g.row.P.Denot g.row.P-Red-Item.Denot g.row.P-State.Denot g.row.P-Shown.Denot)). sum_by (λ host. woken host.view) l) same;
    }
