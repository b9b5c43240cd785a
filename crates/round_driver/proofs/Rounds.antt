-- What a round comes to, once it is over and all hosts are closed.
use Rattle.std.proofs.Common.{◌≡◌, ℕ, suc, ◌+◌, ◌<◌, ◌≤◌, true, List, [], ◌∷◌, length, map, get_or, All, refl, sym, ap, subst, ◌∙◌, arith}
use Rattle.std.specs.List.{sum_by, range_with_len, slice_index_or}
use Rattle.std.specs.Prelude.{option_map}
use Rattle.std.proofs.lemmas.List.{length-map}
use Rattle.std.proofs.lemmas.List.FromFn.{fill_by_all, length-range_with_len}
use Rattle.std.proofs.lemmas.List.Sums.{sum_by-cons, count_by-le-length}
use Rattle.std.proofs.lemmas.Option.{slice_get-get_or, get_or_from_slice_get, slice_get-map}
use Rattle.list_laws.proofs.Places.{element_at}
use Rattle.reduce_laws.specs.ReductionLaws.{Reducer}
use Rattle.reduce_laws.specs.ProgramLaws.{Steps}
use Rattle.graph_division.specs.Division.{Division, hosts_of}
use Rattle.graph_division.specs.Partition.{division_of}
use Rattle.packet_table.specs.Table.{Table, payload_of}
use Rattle.round_packets.specs.Runs.{Run}
use Rattle.host_laws.specs.HostView.{HostView}
use Rattle.host_laws.specs.Standing.{IsDone}
use Rattle.host_laws.specs.Effects.{closed}
use Rattle.host_state.specs.HostState.{HostState}
use Rattle.host_state.specs.OwnEffects.{is_ready_to_close}
use Rattle.host_state.specs.Serving.{run_of}
use Rattle.cluster_laws.specs.Channels.{payload}
use Rattle.cluster_laws.specs.Cluster.{StandsBetween, IsOver}
use Rattle.cluster_laws.specs.Steps.{Closes}
use Rattle.cluster_laws.specs.Numbers.{channel_at}
use Rattle.cluster_laws.specs.Tally.{packets_of, bytes_of_round, changes, changed, woken}
use Rattle.cluster_laws.proofs.Ending.{over_is_done, closes, packets_stay, lengths_stay}
use Rattle.cluster_laws.proofs.Numbering.{is_channel_at, number_at}
use Rattle.cluster_laws.proofs.Tables.{bytes_are}
use Rattle.cluster_laws.proofs.Tallying.{woken_are_changed}
use Rattle.round_driver.specs.Closing.{closed_host, closed_cluster}
use Rattle.round_driver.specs.ClusterState.{ClusterState, StandsNow, StaysItself, shares_of, division_in}
use Rattle.round_driver.specs.Underway.{Underway, table_of, seen_as}
use Rattle.round_driver.proofs.Clusters.{stays_on, closed_last}
use Rattle.round_driver.proofs.Moving.{payload_at, as_many_specs, fits_run, number_within, knows, view_at, host_stands}

sum-map : {X Y : Type 0} (g : Y → ℕ) (f : X → Y) (xs : List X) → sum_by g (map f xs) ≡ sum_by (λ x. g (f x)) xs
sum-map g f [] = refl
sum-map g f (x ∷ xs) = sum_by-cons g (f x) (map f xs) ∙ ap (λ n. g (f x) + n) (sum-map g f xs) ∙ sym (sum_by-cons (λ y. g (f y)) x xs)

-- no more vertices change than there are
few_changed : {Item State Shown : Type 0} (run : Run Item State Shown) (rounds : ℕ) → changed run rounds ≤ run.division.nodes
few_changed run rounds =
    let few = count_by-le-length (changes run rounds) (range_with_len 0 run.division.nodes) in
    let many = length-range_with_len 0 run.division.nodes in
    omega arith

module _ {Program Item State Shown : Type 0} {IsItem : Item → Type 0} {IsShown : Shown → Type 0} {IsState : State → Type 0} {item_bytes : Item → List ℕ} {shown_bytes : Shown → List ℕ} {run : Run Item State Shown} {program : Program} {rounds : ℕ} {hosts : List (HostState Program Item State Shown)} {table : Table}
    (underway : Underway IsItem IsShown IsState item_bytes shown_bytes run program rounds hosts table) (over : (spare : HostView Program Item State Shown) → IsOver run.division (seen_as run.division spare hosts table)) where
  -- each host may close
  pub all_ready : All (λ host. is_ready_to_close host ≡ true) hosts
  all_ready k d within =
      let host = get_or hosts k d in
      let at = slice_get-get_or hosts k d within in
      let done : IsDone run.division host.view
      = subst (λ (view : HostView Program Item State Shown). IsDone run.division view) (view_at underway k host at host.view)
      (over_is_done run underway.is_run rounds (seen_as run.division host.view hosts table) (underway.stands host.view) (over host.view) k (number_within underway k host at)) in
      (knows underway k host at).ready_to_close.1 ((host_stands underway k host at).reduced_first done.spread, done)

  some_view : HostView Program Item State Shown
  some_view = (element_at hosts 0 (let some = underway.servers.some_host in omega arith)).0.view

  -- those who woke are the vertices that show something new
  pub woken_changed : sum_by (λ (host : HostState Program Item State Shown). woken host.view) hosts ≡ changed run rounds
  woken_changed =
      let views = map (λ (host : HostState Program Item State Shown). host.view) hosts in
      sym (sum-map woken (λ (host : HostState Program Item State Shown). host.view) hosts)
      ∙ ap (sum_by woken) (fill_by_all (λ h. get_or views h some_view) views run.division.hosts some_view (length-map hosts (λ (host : HostState Program Item State Shown). host.view) ∙ underway.servers.as_many) (λ k within. refl))
      ∙ sum-map woken (λ h. get_or views h some_view) (hosts_of run.division)
      ∙ woken_are_changed run underway.is_run rounds (seen_as run.division some_view hosts table) (underway.stands some_view) (over some_view)

  pub few_woken : sum_by (λ (host : HostState Program Item State Shown). woken host.view) hosts < 18446744073709551616
  few_woken =
      let same = woken_changed in
      let few = few_changed run rounds in
      let nodes = underway.is_run.divided.few in
      omega arith

  all_closed : (spare : HostView Program Item State Shown) → Closes run.division (seen_as run.division spare hosts table) (seen_as run.division spare (map closed_host hosts) table)
  all_closed spare = record {
    hosts_close = λ h within.
        let host = element_at hosts h (let many = underway.servers.as_many in omega arith) in
        get_or_from_slice_get (map (λ (k : HostState Program Item State Shown). k.view) (map closed_host hosts)) h (closed host.0.view) spare
        (slice_get-map (λ (k : HostState Program Item State Shown). k.view) (map closed_host hosts) h
        ∙ ap (option_map (λ (k : HostState Program Item State Shown). k.view)) (slice_get-map closed_host hosts h ∙ ap (option_map closed_host) host.1))
        ∙ ap closed (sym (view_at underway h host.0 host.1 spare));
    same_flights = λ channel. refl;
    same_bytes = λ channel. refl;
  }

  -- they stand for the moment before the next round
  pub next_between : (spare : HostView Program Item State Shown) → StandsBetween item_bytes shown_bytes run (rounds + 1) (seen_as run.division spare (map closed_host hosts) table)
  next_between spare =
      let next : suc rounds ≡ rounds + 1 = omega arith in
      subst (λ n. StandsBetween item_bytes shown_bytes run n (seen_as run.division spare (map closed_host hosts) table)) next
      (closes run underway.is_run rounds (seen_as run.division spare hosts table) (underway.stands spare) (over spare) (seen_as run.division spare (map closed_host hosts) table) (all_closed spare))

  -- and each channel has the packet of this round
  pub has_packet : (number : ℕ) → number < packets_of run.division → payload_of table number ≡ payload item_bytes shown_bytes run rounds (channel_at run.division number)
  has_packet number within =
      let count = as_many_specs underway in
      sym (ap (λ n. slice_index_or (map (payload_of table) (range_with_len 0 (length table.specs))) n []) (number_at run.division number within) ∙ payload_at table number (omega arith))
      ∙ packets_stay run underway.is_run rounds (seen_as run.division some_view hosts table) (underway.stands some_view) (over some_view) (seen_as run.division some_view (map closed_host hosts) table) (all_closed some_view)
      (channel_at run.division number) (is_channel_at run.division number within)

  pub all_bytes : sum_by length (map (payload_of table) (range_with_len 0 (length table.specs))) ≡ bytes_of_round item_bytes shown_bytes run rounds
  all_bytes =
      sym (bytes_are run.division some_view (table_of hosts table) (fits_run underway))
      ∙ lengths_stay run underway.is_run rounds (seen_as run.division some_view hosts table) (underway.stands some_view) (over some_view) (seen_as run.division some_view (map closed_host hosts) table) (all_closed some_view)

module _ {Program Item State Shown : Type 0} {IsItem : Item → Type 0} {IsShown : Shown → Type 0} {IsState : State → Type 0} {item_bytes : Item → List ℕ} {shown_bytes : Shown → List ℕ}
    (reducer : Reducer Item) (steps : Steps Item State Shown) (item_size shown_size : ℕ) (program : Program) (old before : ClusterState Program Item State Shown) (stays : StaysItself old before)
    (underway : Underway IsItem IsShown IsState item_bytes shown_bytes (run_of reducer steps item_size shown_size (division_in old)) program old.round before.hosts before.table)
    (over : (spare : HostView Program Item State Shown) → IsOver (division_in old) (seen_as (division_in old) spare before.hosts before.table)) (round : before.round ≡ old.round) where
  -- the cluster once it is closed
  pub stays_closed : StaysItself old (closed_cluster before)
  stays_closed =
      let after = stays_on before (closed_cluster before) refl refl (closed_last before.hosts) refl in
      record {
        same_shares = after.same_shares ∙ stays.same_shares;
        same_memos = after.same_memos ∙ stays.same_memos;
        same_program = stays.same_program;
        same_way = stays.same_way;
        same_channels = stays.same_channels;
      }

  same_division : division_in (closed_cluster before) ≡ division_in old
  same_division = ap (λ way. division_of way (shares_of (closed_cluster before))) stays.same_way ∙ ap (division_of old.way) stays_closed.same_shares

  stands_closed : StandsNow reducer steps item_size shown_size item_bytes shown_bytes (closed_cluster before)
  stands_closed spare =
      subst (λ (division : Division). StandsBetween item_bytes shown_bytes (run_of reducer steps item_size shown_size division) (before.round + 1) (seen_as division spare (map closed_host before.hosts) before.table)) (sym same_division)
      (subst (λ n. StandsBetween item_bytes shown_bytes (run_of reducer steps item_size shown_size (division_in old)) (n + 1) (seen_as (division_in old) spare (map closed_host before.hosts) before.table)) (sym round)
      (next_between underway over spare))

  -- what holds of the cluster once a round was run
  pub record Ended (new : ClusterState Program Item State Shown) : Type 0 where
    pub new_stays : StaysItself old new
    pub new_round : new.round ≡ old.round + 1
    pub new_stands : StandsNow reducer steps item_size shown_size item_bytes shown_bytes new
    pub same_table : new.table ≡ before.table

  pub ended : (new : ClusterState Program Item State Shown) → new ≡ closed_cluster before → Ended new
  ended new is = subst (λ (c : ClusterState Program Item State Shown). Ended c) (sym is) (record {
    new_stays = stays_closed;
    new_round = ap (λ n. n + 1) round;
    new_stands = stands_closed;
    same_table = refl;
  })
