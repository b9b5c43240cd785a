use Rattle.std.proofs.Common.{◌∙◌, List, map, get_or, All, refl, sym, ap, subst}
use Rattle.std.specs.Vec.{with_items}
use Rattle.std.proofs.lemmas.List.{with_items_is}
use Rattle.std.proofs.lemmas.Option.{slice_get-get_or}
use Rattle.host_state.specs.HostState.{HostState, IsHost}
use Rattle.round_driver.specs.ClusterState.{IsCluster}
use Rattle.round_driver.specs.Underway.{lasting}
use Rattle.round_driver.proofs.Clusters.{cluster_on, stays_on, cluster_with, begins, brought_as}
use Rattle.round_driver.proofs.turn.bring_events.Goals as goal

pub run_events-requires : goal.run_events-requires
run_events-requires g c = λ κs outlives.
    let lent = cluster_with c.cluster.inside.program c.cluster.inside.way c.cluster.inside.round c.deref_mut.result.now c.cluster.inside.channels in
    let same = ap (λ (l : List (HostState g.row.P.Denot g.row.P-Red-Item.Denot g.row.P-State.Denot g.row.P-Shown.Denot)). cluster_with c.cluster.inside.program c.cluster.inside.way c.cluster.inside.round l c.cluster.inside.channels) c.deref_mut.ensures.value ∙ c.cluster.view_is in
    let is = subst (λ (l : List (HostState g.row.P.Denot g.row.P-Red-Item.Denot g.row.P-State.Denot g.row.P-Shown.Denot)). IsCluster g.P.Red.Item.Word.WIDTH g.P.Shown.Word.WIDTH (cluster_with c.cluster.inside.program c.cluster.inside.way c.cluster.inside.round l c.cluster.inside.channels)) (sym c.deref_mut.ensures.value) c.cluster.invariant in
    let begun = begins g.P.Red.Item.Word.bytes_of g.P.Shown.Word.bytes_of g.P.Red.Reduction.reducer g.P.VertexProgram.steps g.P.Red.Item.Word.WIDTH g.P.Shown.Word.WIDTH g.met.P.Red.Reduction.laws g.met.P.VertexProgram.laws
    g.moment c.args.cluster.now lent same c.requires.1.1.1.1.1.1.0 is c.requires.1.1.1.1.1.1.1 in
    (outlives.0, (outlives.1.0, (outlives.1.1.0, (outlives.1.1.1.0, (outlives.1.1.1.1.0, (outlives.1.1.1.1.1, (begun.underway, begun.between)))))))

pub invariant_of-cluster : goal.invariant_of-cluster
invariant_of-cluster g c =
    let lent = cluster_with c.cluster.inside.program c.cluster.inside.way c.cluster.inside.round c.deref_mut.result.now c.cluster.inside.channels in
    let same = ap (λ (l : List (HostState g.row.P.Denot g.row.P-Red-Item.Denot g.row.P-State.Denot g.row.P-Shown.Denot)). cluster_with c.cluster.inside.program c.cluster.inside.way c.cluster.inside.round l c.cluster.inside.channels) c.deref_mut.ensures.value ∙ c.cluster.view_is in
    let is = subst (λ (l : List (HostState g.row.P.Denot g.row.P-Red-Item.Denot g.row.P-State.Denot g.row.P-Shown.Denot)). IsCluster g.P.Red.Item.Word.WIDTH g.P.Shown.Word.WIDTH (cluster_with c.cluster.inside.program c.cluster.inside.way c.cluster.inside.round l c.cluster.inside.channels)) (sym c.deref_mut.ensures.value) c.cluster.invariant in
    let begun = begins g.P.Red.Item.Word.bytes_of g.P.Shown.Word.bytes_of g.P.Red.Reduction.reducer g.P.VertexProgram.steps g.P.Red.Item.Word.WIDTH g.P.Shown.Word.WIDTH g.met.P.Red.Reduction.laws g.met.P.VertexProgram.laws
    g.moment c.args.cluster.now lent same c.requires.1.1.1.1.1.1.0 is c.requires.1.1.1.1.1.1.1 in
    let new = with_items_is c.cluster.inside.hosts c.run_events.new.hosts (c.run_events.auto.hosts ∙ c.deref_mut.ensures.len) in
    cluster_on g.P.Red.Item.Word.WIDTH g.P.Shown.Word.WIDTH
    (cluster_with c.cluster.inside.program c.cluster.inside.way c.cluster.inside.round c.cluster.inside.hosts.items c.cluster.inside.channels)
    (cluster_with c.cluster.inside.program c.cluster.inside.way c.cluster.inside.round (with_items c.cluster.inside.hosts c.run_events.new.hosts).items c.run_events.new.channels)
    c.cluster.invariant refl refl
    (ap (λ (l : List (HostState g.row.P.Denot g.row.P-Red-Item.Denot g.row.P-State.Denot g.row.P-Shown.Denot)). map lasting l) new ∙ c.run_events.ensures.lasting ∙ ap (λ (l : List (HostState g.row.P.Denot g.row.P-Red-Item.Denot g.row.P-State.Denot g.row.P-Shown.Denot)). map lasting l) c.deref_mut.ensures.value)
    (subst (λ (l : List (HostState g.row.P.Denot g.row.P-Red-Item.Denot g.row.P-State.Denot g.row.P-Shown.Denot)). All IsHost l) (sym new)
    (λ k d within. (c.run_events.ensures.underway.servers.each k (get_or c.run_events.new.hosts k d) (slice_get-get_or c.run_events.new.hosts k d within)).is_host))
    (c.run_events.ensures.underway.channels_are ∙ sym begun.underway.channels_are) c.run_events.ensures.underway.is_table

pub returns : goal.returns
returns g c =
    let lent = cluster_with c.cluster.inside.program c.cluster.inside.way c.cluster.inside.round c.deref_mut.result.now c.cluster.inside.channels in
    let same = ap (λ (l : List (HostState g.row.P.Denot g.row.P-Red-Item.Denot g.row.P-State.Denot g.row.P-Shown.Denot)). cluster_with c.cluster.inside.program c.cluster.inside.way c.cluster.inside.round l c.cluster.inside.channels) c.deref_mut.ensures.value ∙ c.cluster.view_is in
    let is = subst (λ (l : List (HostState g.row.P.Denot g.row.P-Red-Item.Denot g.row.P-State.Denot g.row.P-Shown.Denot)). IsCluster g.P.Red.Item.Word.WIDTH g.P.Shown.Word.WIDTH (cluster_with c.cluster.inside.program c.cluster.inside.way c.cluster.inside.round l c.cluster.inside.channels)) (sym c.deref_mut.ensures.value) c.cluster.invariant in
    let begun = begins g.P.Red.Item.Word.bytes_of g.P.Shown.Word.bytes_of g.P.Red.Reduction.reducer g.P.VertexProgram.steps g.P.Red.Item.Word.WIDTH g.P.Shown.Word.WIDTH g.met.P.Red.Reduction.laws g.met.P.VertexProgram.laws
    g.moment c.args.cluster.now lent same c.requires.1.1.1.1.1.1.0 is c.requires.1.1.1.1.1.1.1 in
    let new = with_items_is c.cluster.inside.hosts c.run_events.new.hosts (c.run_events.auto.hosts ∙ c.deref_mut.ensures.len) in
    let after = cluster_with c.cluster.inside.program c.cluster.inside.way c.cluster.inside.round c.run_events.new.hosts c.run_events.new.channels in
    let there = cluster_with c.cluster.inside.program c.cluster.inside.way c.cluster.inside.round (with_items c.cluster.inside.hosts c.run_events.new.hosts).items c.run_events.new.channels in
    let brought = brought_as g.P.Red.Item.Word.bytes_of g.P.Shown.Word.bytes_of g.P.Red.Reduction.reducer g.P.VertexProgram.steps g.P.Red.Item.Word.WIDTH g.P.Shown.Word.WIDTH g.met.P.Red.Reduction.laws g.met.P.VertexProgram.laws
    g.moment c.args.cluster.now there lent after same
    (ap (λ (l : List (HostState g.row.P.Denot g.row.P-Red-Item.Denot g.row.P-State.Denot g.row.P-Shown.Denot)). cluster_with c.cluster.inside.program c.cluster.inside.way c.cluster.inside.round l c.run_events.new.channels) (sym new))
    (record {
      stays = stays_on lent after refl refl c.run_events.ensures.lasting (c.run_events.ensures.underway.channels_are ∙ sym begun.underway.channels_are);
      round = refl;
      underway = c.run_events.ensures.underway;
      came = c.run_events.ensures.steps;
      over = c.run_events.ensures.over;
    }) in
    record {
      stays = brought.stays;
      round = brought.round;
      underway = brought.underway;
      steps = brought.came;
      over = brought.over;
      asked = c.run_events.ensures.asked;
      begun = c.run_events.ensures.begun;
    }
