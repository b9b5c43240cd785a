-- A cluster that is made of a partition's graphs and their memos.
use Rattle.std.proofs.Common.{◌≡◌, ℕ, ◌<◌, ◌≤◌, ◌^◌, false, List, ◌++◌, length, map, slice_get, slice_index_or, Some, All, sym, ap, subst, ◌∙◌, arith}
use Rattle.std.specs.Prelude.{option_map}
use Rattle.std.specs.List.{sum}
use Rattle.std.proofs.lemmas.List.Elements.{All-weaker}
use Rattle.std.proofs.lemmas.List.FromFn.{get_or-map-range_with_len}
use Rattle.std.proofs.lemmas.List.{length-map}
use Rattle.std.proofs.lemmas.Option.{slice_get-map, slice_get_within, get_or_from_slice_get}
use Rattle.list_laws.proofs.Members.{has_member-no_members}
use Rattle.list_laws.proofs.Places.{element_at, All-at, All-from_slice_get}
use Rattle.graph_model.specs.Graph.{most_nodes}
use Rattle.graph_model.specs.declared.edge.Way.{Way}
use Rattle.graph_division.specs.Division.{Division}
use Rattle.graph_division.specs.Shares.{Share}
use Rattle.graph_division.specs.Partition.{IsPartition, masters_of_all, division_of}
use Rattle.graph_division.proofs.Partitions.{hosts_see_themselves, partitions_divide}
use Rattle.address_memo.specs.Memos.{Memos, Proxies, Agree, none, list_at, proxies_of, own_reduce}
use Rattle.reduce_laws.specs.ReductionLaws.{Reducer, ReductionLaws}
use Rattle.reduce_laws.specs.ProgramLaws.{Steps, ProgramLaws}
use Rattle.reduce_laws.specs.WordLaws.{IsWordWidth}
use Rattle.packet_table.specs.declared.channel_spec.ChannelSpec.{ChannelSpec}
use Rattle.packet_table.specs.declared.channel_spec.Leg.TheVariants.{Reduce, Spread}
use Rattle.packet_table.specs.Order.{Rise}
use Rattle.packet_table.specs.Table.{Table, IsTable, rooms_of, fresh}
use Rattle.cluster_laws.specs.Channels.{Leg, channels, list_of}
use Rattle.cluster_laws.specs.Channels.Leg.{reduce, broadcast}
use Rattle.cluster_laws.specs.Cluster.{StandsBetween}
use Rattle.cluster_laws.specs.Numbers.{number_of, cluster_of}
use Rattle.cluster_laws.proofs.Ending.{fresh_stands_between}
use Rattle.round_packets.specs.Runs.{IsRun}
use Rattle.host_laws.specs.HostView.{HostView}
use Rattle.host_laws.specs.Standing.{IsFresh}
use Rattle.host_state.specs.HostState.{HostState}
use Rattle.host_state.specs.Serving.{run_of}
use Rattle.round_driver.specs.ClusterState.{IsCluster, IsHostOf, StandsNow, table_in, spec_of, leg_in_table}
use Rattle.round_driver.specs.ChannelSpecs.{IsMemoOf, list_to, specs_of_leg}
use Rattle.round_driver.specs.Hosting.{IsNewHost}
use Rattle.round_driver.proofs.Rows.{HasLists, channels_asked}
use Rattle.round_driver.proofs.Rooms.{width_fits, list_short, specs_rise, specs_few, rooms_fit, fresh_is_table}
use Rattle.round_driver.proofs.Serving.{serves_at}

module _ (way : Way) (shares : List Share) (memos : List Memos) (partition : IsPartition shares) (agree : Agree way shares memos) where
  division : Division
  division = division_of way shares

  pub few_hosts : length shares ≤ 64
  few_hosts =
      let some = partition.some_host in
      let share = element_at shares 0 (omega arith) in
      let of_host = partition.by_host 0 share.0 share.1 in
      let few = of_host.is_share.few_hosts in
      let count = of_host.of_hosts in
      omega arith

  pub few_nodes : length (masters_of_all shares) ≤ most_nodes
  few_nodes =
      let some = partition.some_host in
      let share = element_at shares 0 (omega arith) in
      let of_host = partition.by_host 0 share.0 share.1 in
      subst (λ (masters : List ℕ). length masters ≤ most_nodes) of_host.agrees of_host.is_share.nodes_fit

  has_lists : (j : ℕ) (memo : Memos) → slice_get memos j ≡ Some memo → HasLists division j memo
  unfolding division
  has_lists j memo at =
      let long = agree.each in
      let within = slice_get_within memos j memo at in
      let share = element_at shares j (omega arith) in
      let fits = agree.fit j share.0 memo share.1 at in
      let shows = hosts_see_themselves way shares j share.0 partition share.1 in
      let count = shows.hosts in
      record {
        of_hosts = fits.of_hosts ∙ shows.hosts;
        lists = elim [
          | reduce ↦ λ to below.
              ap (λ (lists : List Proxies). (list_at lists to).globals) fits.reduce_to_own
              ∙ ap (λ (list : Proxies). list.globals) (get_or-map-range_with_len (λ peer. proxies_of share.0 (own_reduce way share.0 peer)) 0 share.0.hosts to to none (omega arith) (omega arith))
              ∙ shows.reduces to
          | broadcast ↦ λ to below. agree.spread_to j to memo at below
        ];
      }

  memo_of : (j : ℕ) (memo : Memos) → slice_get memos j ≡ Some memo → IsMemoOf (length memos) memo
  unfolding division
  memo_of j memo at =
      let has = has_lists j memo at in
      let few = few_nodes in
      let long = agree.each in
      let short = λ (leg : Leg) (to : ℕ) (below : to < length shares). let size = list_short (division_of way shares) leg j to in let same = ap (λ (l : List ℕ). length l) (has.lists leg to below) in bounded (length (list_to memo (leg_in_table leg) to)) (length (list_of (division_of way shares) leg j to)) same (size) in
      record {
        of_hosts = has.of_hosts ∙ sym agree.each;
        few = elim [
          | Reduce ↦ λ to below. short reduce to (omega arith)
          | Spread ↦ λ to below. short broadcast to (omega arith)
        ];
      }
    where
      bounded : (a b : ℕ) → a ≡ b → b ≤ length (masters_of_all shares) → a ≤ most_nodes
      bounded a b same less = let few = few_nodes in omega arith

  pub memos_are : All (IsMemoOf (length memos)) memos
  memos_are = All-from_slice_get (IsMemoOf (length memos)) memos memo_of

  -- the channels that the memos ask for
  pub record AreSpecs (item_size shown_size : ℕ) (specs : List ChannelSpec) : Type 0 where
    pub specs_are : specs ≡ map (spec_of item_size shown_size (division_of way shares)) (channels (division_of way shares))
    pub rise : Rise specs
    pub few : length specs < 2 ^ 32
    pub room : sum (rooms_of specs) < 2 ^ 63

  pub are_specs : (item_size shown_size : ℕ) (told : List Memos) (specs : List ChannelSpec) → IsWordWidth item_size → IsWordWidth shown_size → told ≡ memos
      → specs ≡ specs_of_leg Reduce item_size 0 told ++ specs_of_leg Spread shown_size 0 told → AreSpecs item_size shown_size specs
  unfolding division
  are_specs item_size shown_size told specs item shown told_is asked =
      let are = asked ∙ ap (λ (l : List Memos). specs_of_leg Reduce item_size 0 l ++ specs_of_leg Spread shown_size 0 l) told_is ∙ channels_asked item_size shown_size (division_of way shares) memos agree.each has_lists in
      record {
        specs_are = are;
        rise = subst (λ (l : List ChannelSpec). Rise l) (sym are) (specs_rise item_size shown_size (division_of way shares));
        few = let few = specs_few item_size shown_size (division_of way shares) few_hosts in let long = ap (λ (l : List ChannelSpec). length l) are in omega arith;
        room = subst (λ (l : List ChannelSpec). sum (rooms_of l) < 2 ^ 63) (sym are) (rooms_fit item_size shown_size (division_of way shares) few_hosts few_nodes (width_fits item_size item) (width_fits shown_size shown));
      }

  module _ {Program Item State Shown : Type 0} (reducer : Reducer Item) (steps : Steps Item State Shown) (item_size shown_size : ℕ) (program : Program) (hosts : List (HostState Program Item State Shown))
      (graphs_are : map (λ host. host.graph) hosts ≡ shares) (lists_are : map (λ host. host.memo) hosts ≡ memos) (new : All (IsNewHost reducer steps item_size shown_size program way) hosts)
      (specs : List ChannelSpec) (asked : AreSpecs item_size shown_size specs) (table : Table) (table_is : table ≡ fresh specs) where
    -- they make a cluster
    pub made : (round : ℕ) → IsCluster item_size shown_size (record { program = program; way = way; round = round; hosts = hosts; table = table })
    made round = record {
      is_partition = subst IsPartition (sym graphs_are) partition;
      agree = subst (λ (l : List Share). Agree way l (map (λ (host : HostState Program Item State Shown). host.memo) hosts)) (sym graphs_are) (subst (Agree way shares) (sym lists_are) agree);
      hosts_are = All-weaker (IsNewHost reducer steps item_size shown_size program way) (IsHostOf program way) (λ host is. is.is_host_of) hosts new;
      channels_are =
          ap (λ (t : Table). t.specs) table_is ∙ asked.specs_are
          ∙ ap (λ (l : List Share). map (spec_of item_size shown_size (division_of way l)) (channels (division_of way l))) (sym graphs_are);
      is_table = subst IsTable (sym table_is) (fresh_is_table specs asked.rise asked.few asked.room);
    }

    -- which stands for the moment before the first round
    pub stands : {IsItem : Item → Type 0} {IsShown : Shown → Type 0} {IsState : State → Type 0} (item_bytes : Item → List ℕ) (shown_bytes : Shown → List ℕ)
        → ReductionLaws IsItem reducer → ProgramLaws IsItem IsShown IsState reducer steps
        → StandsNow reducer steps item_size shown_size item_bytes shown_bytes (record { program = program; way = way; round = 0; hosts = hosts; table = table })
    stands {IsItem} {IsShown} {IsState} item_bytes shown_bytes reduction laws spare =
        subst (λ (l : List Share). StandsBetween item_bytes shown_bytes (run_of reducer steps item_size shown_size (division_of way l)) 0 (cluster_of (division_of way l) spare (table_in (record { program = program; way = way; round = 0; hosts = hosts; table = table })))) (sym graphs_are)
        (fresh_stands_between (run_of reducer steps item_size shown_size (division_of way shares)) is_run (cluster_of (division_of way shares) spare (table_in (record { program = program; way = way; round = 0; hosts = hosts; table = table })))
        (λ h below. let one = view_at h below in subst (IsFresh (run_of reducer steps item_size shown_size (division_of way shares))) (sym one.1) (one.2.is_fresh (division_of way shares) (serves_at program way hosts shares memos graphs_are lists_are partition agree h one.0 one.3 one.2.is_host_of)))
        (λ h below. let one = view_at h below in ap (λ (view : HostView Program Item State Shown). view.host) one.1 ∙ one.2.is_host_of.is_host.of_host ∙ (partition.by_host h one.0.graph (graph_at h one.0 one.3)).of_host)
        (λ channel. ap (λ (t : Table). slice_index_or t.flying (number_of (division_of way shares) channel) false) table_is ∙ has_member-no_members (length specs) (number_of (division_of way shares) channel)))
      where
        is_run : IsRun IsItem IsShown IsState (run_of reducer steps item_size shown_size (division_of way shares))
        is_run = record { divided = partitions_divide way shares partition; reduction = reduction; program = laws }

        graph_at : (h : ℕ) (host : HostState Program Item State Shown) → slice_get hosts h ≡ Some host → slice_get shares h ≡ Some host.graph
        graph_at h host at = ap (λ (l : List Share). slice_get l h) (sym graphs_are) ∙ slice_get-map (λ (one : HostState Program Item State Shown). one.graph) hosts h ∙ ap (option_map (λ (one : HostState Program Item State Shown). one.graph)) at

        view_at : (h : ℕ) → h < length shares
            → (host : HostState Program Item State Shown) × (slice_index_or (map (λ (one : HostState Program Item State Shown). one.view) hosts) h spare ≡ host.view) × IsNewHost reducer steps item_size shown_size program way host × (slice_get hosts h ≡ Some host)
        view_at h below =
            let long = ap (λ (l : List Share). length l) graphs_are in
            let many = length-map hosts (λ (one : HostState Program Item State Shown). one.graph) in
            let host = element_at hosts h (omega arith) in (
              host.0,
              get_or_from_slice_get (map (λ (one : HostState Program Item State Shown). one.view) hosts) h host.0.view spare (slice_get-map (λ (one : HostState Program Item State Shown). one.view) hosts h ∙ ap (option_map (λ (one : HostState Program Item State Shown). one.view)) host.1),
              All-at (IsNewHost reducer steps item_size shown_size program way) hosts h host.0 new host.1,
              host.1,
            )
