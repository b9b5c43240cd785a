-- What holds of a cluster before, within and after its round.
use Rattle.std.proofs.Common.{◌≡◌, ℕ, ◌+◌, ◌*◌, ◌<◌, List, [], ◌∷◌, length, map, get_or, slice_get, Some, All, refl, sym, ap, subst, ◌∙◌, arith}
use Rattle.std.proofs.lemmas.List.{length-map, get_or-map}
use Rattle.std.proofs.lemmas.Option.{slice_get-map}
use Rattle.std.specs.Prelude.{option_map}
use Rattle.list_laws.proofs.Places.{All-at}
use Rattle.reduce_laws.specs.ReductionLaws.{Reducer, ReductionLaws}
use Rattle.reduce_laws.specs.ProgramLaws.{Steps, ProgramLaws}
use Rattle.graph_model.specs.declared.edge.Way.{Way}
use Rattle.graph_division.specs.Division.{Division}
use Rattle.graph_division.specs.Lists.{reduce_list, broadcast_list}
use Rattle.graph_division.specs.Shares.{Share}
use Rattle.graph_division.specs.Partition.{IsPartition, division_of}
use Rattle.graph_division.proofs.Partitions.{partitions_divide, hosts_see_themselves}
use Rattle.graph_model.specs.Arcs.{arcs_of}
use Rattle.address_memo.specs.Memos.{Memos, Agree}
use Rattle.packet_table.specs.Table.{Table, IsTable}
use Rattle.round_packets.specs.Runs.{Run}
use Rattle.host_laws.specs.HostView.{HostView}
use Rattle.host_state.specs.HostState.{HostState, IsHost}
use Rattle.host_state.specs.Serving.{run_of}
use Rattle.cluster_laws.specs.Channels.{channels}
use Rattle.cluster_laws.specs.Cluster.{StandsBetween, IsOver}
use Rattle.cluster_laws.specs.Steps.{StepsInTurn}
use Rattle.cluster_laws.specs.Tally.{packets_of}
use Rattle.round_driver.specs.Closing.{closed_host}
use Rattle.round_driver.specs.ClusterState.{ClusterState, IsCluster, IsHostOf, StandsNow, StaysItself, shares_of, memos_of, division_in, spec_of}
use Rattle.round_driver.specs.Underway.{Moment, moment_of, Lasting, lasting, AreServers, Underway, seen_as}

map-map : {X Y Z : Type 0} (g : Y → Z) (f : X → Y) (xs : List X) → map g (map f xs) ≡ map (λ x. g (f x)) xs
map-map g f [] = refl
map-map g f (x ∷ xs) = ap (λ ys. g (f x) ∷ ys) (map-map g f xs)

module _ {Program Item State Shown : Type 0} where
  -- a cluster by its parts
  abbrev pub cluster_with : Program → Way → ℕ → List (HostState Program Item State Shown) → Table → ClusterState Program Item State Shown
  cluster_with program way round hosts table = record { program = program; way = way; round = round; hosts = hosts; table = table }

  -- what is told by what lasts is the same where that is
  told_by_lasting : {Y : Type 0} (f : Lasting Program → Y) (old new : List (HostState Program Item State Shown)) → map lasting new ≡ map lasting old → map (λ host. f (lasting host)) new ≡ map (λ host. f (lasting host)) old
  told_by_lasting {Y} f old new same = sym (map-map f lasting new) ∙ ap (map f) same ∙ map-map f lasting old

  -- what lasts of hosts stays where they are closed
  pub closed_last : (hosts : List (HostState Program Item State Shown)) → map lasting (map closed_host hosts) ≡ map lasting hosts
  closed_last hosts = map-map lasting closed_host hosts

  pub same_shares : (old new : List (HostState Program Item State Shown)) → map lasting new ≡ map lasting old → map (λ (host : HostState Program Item State Shown). host.graph) new ≡ map (λ (host : HostState Program Item State Shown). host.graph) old
  same_shares old new same = told_by_lasting (λ l. l.graph) old new same

  pub same_memos : (old new : List (HostState Program Item State Shown)) → map lasting new ≡ map lasting old → map (λ (host : HostState Program Item State Shown). host.memo) new ≡ map (λ (host : HostState Program Item State Shown). host.memo) old
  same_memos old new same = told_by_lasting (λ l. l.memo) old new same

  same_length : (old new : List (HostState Program Item State Shown)) → map lasting new ≡ map lasting old → length new ≡ length old
  same_length old new same = sym (length-map new lasting) ∙ ap (λ (l : List (Lasting Program)). length l) same ∙ length-map old lasting

  lasting_at : (old new : List (HostState Program Item State Shown)) → map lasting new ≡ map lasting old → (k : ℕ) (d : HostState Program Item State Shown) → k < length new → lasting (get_or new k d) ≡ lasting (get_or old k d)
  lasting_at old new same k d within =
      let long = same_length old new same in
      sym (get_or-map lasting new k d (lasting d) within) ∙ ap (λ (l : List (Lasting Program)). get_or l k (lasting d)) same ∙ get_or-map lasting old k d (lasting d) (omega arith)

  -- a cluster whose hosts stay themselves is one
  pub cluster_on : (item_size shown_size : ℕ) (old new : ClusterState Program Item State Shown) → IsCluster item_size shown_size old → new.program ≡ old.program → new.way ≡ old.way → map lasting new.hosts ≡ map lasting old.hosts
      → All IsHost new.hosts → new.table.specs ≡ old.table.specs → IsTable new.table → IsCluster item_size shown_size new
  cluster_on item_size shown_size old new is same_program same_way same hosts specs table = record {
    is_partition = subst (λ (l : List Share). IsPartition l) (sym shares) is.is_partition;
    agree = subst (λ way. Agree way (shares_of new) (memos_of new)) (sym same_way)
        (subst (λ (l : List Share). Agree old.way l (memos_of new)) (sym shares) (subst (λ (l : List Memos). Agree old.way (shares_of old) l) (sym memos) is.agree));
    hosts_are = λ k d within.
        let long = same_length old.hosts new.hosts same in
        let before = is.hosts_are k d (omega arith) in
        let lasts = lasting_at old.hosts new.hosts same k d within in
        record {
          is_host = hosts k d within;
          runs = ap (λ (l : Lasting Program). l.program) lasts ∙ before.runs ∙ sym same_program;
          follows = ap (λ (l : Lasting Program). l.way) lasts ∙ before.follows ∙ sym same_way;
        };
    channels_are = specs ∙ is.channels_are ∙ ap (λ (division : Division). map (spec_of item_size shown_size division) (channels division)) (sym division);
    is_table = table;
  }
    where
      shares : shares_of new ≡ shares_of old
      shares = same_shares old.hosts new.hosts same

      memos : memos_of new ≡ memos_of old
      memos = same_memos old.hosts new.hosts same

      division : division_in new ≡ division_in old
      division = ap (λ way. division_of way (shares_of new)) same_way ∙ ap (division_of old.way) shares

  pub stays_on : (old new : ClusterState Program Item State Shown) → new.program ≡ old.program → new.way ≡ old.way → map lasting new.hosts ≡ map lasting old.hosts → new.table.specs ≡ old.table.specs → StaysItself old new
  stays_on old new same_program same_way same specs = record {
    same_shares = same_shares old.hosts new.hosts same;
    same_memos = same_memos old.hosts new.hosts same;
    same_program = same_program;
    same_way = same_way;
    same_channels = specs;
  }

module _ {Program Item State Shown : Type 0} (item_size shown_size : ℕ) (cluster : ClusterState Program Item State Shown) (is : IsCluster item_size shown_size cluster) where
  -- the hosts of a cluster serve its division
  are_servers : AreServers cluster.program (division_in cluster) cluster.hosts
  are_servers = record {
    as_many = sym (length-map cluster.hosts (λ (host : HostState Program Item State Shown). host.graph));
    some_host = let some = is.is_partition.some_host in let long = length-map cluster.hosts (λ (host : HostState Program Item State Shown). host.graph) in omega arith;
    each = λ number host at.
        let host_of = All-at (IsHostOf cluster.program cluster.way) cluster.hosts number host is.hosts_are at in
        let share_at : slice_get (shares_of cluster) number ≡ Some host.graph = slice_get-map (λ (h : HostState Program Item State Shown). h.graph) cluster.hosts number ∙ ap (option_map (λ (h : HostState Program Item State Shown). h.graph)) at in
        let memo_at : slice_get (memos_of cluster) number ≡ Some host.memo = slice_get-map (λ (h : HostState Program Item State Shown). h.memo) cluster.hosts number ∙ ap (option_map (λ (h : HostState Program Item State Shown). h.memo)) at in
        let sees = hosts_see_themselves cluster.way (shares_of cluster) number host.graph is.is_partition share_at in
        record {
          is_host = host_of.is_host;
          serves = record {
            nodes = sym sees.nodes;
            hosts = sym sees.hosts;
            master = λ v. ap (λ (l : List ℕ). get_or l v 0) (sym sees.masters);
            share =
                ap (division_in cluster).share sees.of_host
                ∙ sym (ap (λ way. arcs_of way host.graph.edges) host_of.follows ∙ ap (arcs_of cluster.way) sees.edges);
            reduce_from = λ peer within.
                let hosts_are = sees.hosts in
                is.agree.reduce_from number peer host.memo memo_at (omega arith)
                ∙ ap (reduce_list (division_in cluster) peer) (sym sees.of_host);
            spread_to = λ peer within.
                let hosts_are = sees.hosts in
                is.agree.spread_to number peer host.memo memo_at (omega arith)
                ∙ ap (λ n. broadcast_list (division_in cluster) n peer) (sym sees.of_host);
          };
          of_number = host_of.is_host.of_host ∙ sees.of_host;
          runs = host_of.runs;
        };
  }

module _ {Program Item State Shown : Type 0} {IsItem : Item → Type 0} {IsShown : Shown → Type 0} {IsState : State → Type 0} (item_bytes : Item → List ℕ) (shown_bytes : Shown → List ℕ)
    (reducer : Reducer Item) (steps : Program → Steps Item State Shown) (item_size shown_size : ℕ) (reduction : ReductionLaws IsItem reducer) (laws : (program : Program) → ProgramLaws IsItem IsShown IsState reducer (steps program)) where
  -- the run at a moment
  abbrev run_at : Moment Program → Run Item State Shown
  run_at moment = run_of reducer (steps moment.program) item_size shown_size moment.division

  -- a cluster that stands for a moment between two rounds begins one
  pub record Begins (moment : Moment Program) (cluster : ClusterState Program Item State Shown) : Type 0 where
    pub underway : Underway IsItem IsShown IsState item_bytes shown_bytes (run_at moment) moment.program moment.rounds cluster.hosts cluster.table
    pub between : (spare : HostView Program Item State Shown) → StandsBetween item_bytes shown_bytes (run_at moment) moment.rounds (seen_as moment.division spare cluster.hosts cluster.table)

  begins_now : (cluster : ClusterState Program Item State Shown) → IsCluster item_size shown_size cluster → StandsNow reducer (steps cluster.program) item_size shown_size item_bytes shown_bytes cluster → Begins (moment_of cluster) cluster
  begins_now cluster is stands = record {
    underway = record {
      is_run = record { divided = partitions_divide cluster.way (shares_of cluster) is.is_partition; reduction = reduction; program = laws cluster.program };
      servers = are_servers item_size shown_size cluster is;
      channels_are = is.channels_are;
      is_table = is.is_table;
      stands = λ spare. (stands spare).stands;
    };
    between = stands;
  }

  pub begins : (moment : Moment Program) (now cluster : ClusterState Program Item State Shown) → cluster ≡ now → moment ≡ moment_of now → IsCluster item_size shown_size cluster
      → StandsNow reducer (steps now.program) item_size shown_size item_bytes shown_bytes now → Begins moment cluster
  begins moment now cluster same at is stands =
      subst (λ (m : Moment Program). Begins m cluster) (sym (at ∙ ap moment_of (sym same)))
      (begins_now cluster is (subst (λ (c : ClusterState Program Item State Shown). StandsNow reducer (steps c.program) item_size shown_size item_bytes shown_bytes c) (sym same) stands))

  -- all events of the round have come
  pub record Brought (moment : Moment Program) (old new : ClusterState Program Item State Shown) : Type 0 where
    pub stays : StaysItself old new
    pub round : new.round ≡ old.round
    pub underway : Underway IsItem IsShown IsState item_bytes shown_bytes (run_at moment) moment.program moment.rounds new.hosts new.table
    pub came : (spare : HostView Program Item State Shown) → StepsInTurn item_bytes shown_bytes (run_at moment) moment.rounds (2 * moment.division.hosts + packets_of moment.division)
        (seen_as moment.division spare old.hosts old.table) (seen_as moment.division spare new.hosts new.table)
    pub over : (spare : HostView Program Item State Shown) → IsOver moment.division (seen_as moment.division spare new.hosts new.table)

  pub brought_as : (moment : Moment Program) (old new other_old other_new : ClusterState Program Item State Shown) → other_old ≡ old → other_new ≡ new → Brought moment other_old other_new → Brought moment old new
  brought_as moment old new other_old other_new same_old same_new brought =
      subst (λ (c : ClusterState Program Item State Shown). Brought moment c new) same_old (subst (λ (c : ClusterState Program Item State Shown). Brought moment other_old c) same_new brought)
