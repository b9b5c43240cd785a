-- How many hosts, channels and choices there are at most.
use Rattle.std.proofs.Common.{ℕ, ◌≤◌, List, ◌++◌, length, map, arith, length-append}
use Rattle.std.proofs.lemmas.List.{length-map}
use Rattle.std.proofs.lemmas.List.Concat.{length-flat_map}
use Rattle.std.proofs.lemmas.List.FromFn.{length-range_with_len}
use Rattle.std.proofs.lemmas.List.Sums.{sum_by-le, length-filter, count_by-le-length}
use Rattle.list_laws.specs.Members.{count_of}
use Rattle.list_laws.proofs.Members.{count_of-le-length}
use Rattle.list_laws.proofs.Places.{element_at}
use Rattle.packet_table.specs.Table.{Table}
use Rattle.graph_division.specs.Division.{Division, hosts_of}
use Rattle.round_packets.specs.Runs.{Run}
use Rattle.host_state.specs.HostState.{HostState}
use Rattle.cluster_laws.specs.Channels.{Leg, Channel, pairs, is_channel}
use Rattle.cluster_laws.specs.Channels.Leg.{reduce, broadcast}
use Rattle.cluster_laws.specs.Tally.{packets_of}
use Rattle.round_driver.specs.Choices.{may_do, who_may}
use Rattle.round_driver.specs.declared.choosing.Doing.{Doing}
use Rattle.round_driver.specs.Underway.{Underway}
use Rattle.round_driver.proofs.Moving.{as_many_specs}

few_pairs : (division : Division) (leg : Leg) → division.hosts ≤ 64 → length (pairs division leg) ≤ 4096
few_pairs division leg few =
    let from_each : ℕ → List Channel = λ from. map (λ to. record { leg = leg; from = from; to = to }) (hosts_of division) in
    let many = length-range_with_len 0 division.hosts in
    let each : (from : ℕ) → length (from_each from) ≤ 64 = λ from. let long = length-map (hosts_of division) (λ to. channel_by from to) in omega arith in
    let sum = sum_by-le (λ from. length (from_each from)) 64 (hosts_of division) (λ k d within. each _) in
    let flat = length-flat_map from_each (hosts_of division) in
    omega arith
  where
    channel_by : (from to : ℕ) → Channel
    channel_by from to = record { leg = leg; from = from; to = to }

pub few_packets : (division : Division) → division.hosts ≤ 64 → packets_of division ≤ 8192
few_packets division few =
    let both = length-append (pairs division reduce) (pairs division broadcast) in
    let first = few_pairs division reduce few in
    let second = few_pairs division broadcast few in
    let passing = length-filter (is_channel division) (pairs division reduce ++ pairs division broadcast) in
    let fewer = count_by-le-length (is_channel division) (pairs division reduce ++ pairs division broadcast) in
    omega arith

module _ {Program Item State Shown : Type 0} {IsItem : Item → Type 0} {IsShown : Shown → Type 0} {IsState : State → Type 0} {item_bytes : Item → List ℕ} {shown_bytes : Shown → List ℕ} {run : Run Item State Shown} {program : Program} {rounds : ℕ} {hosts : List (HostState Program Item State Shown)} {table : Table}
    (underway : Underway IsItem IsShown IsState item_bytes shown_bytes run program rounds hosts table) where
  pub few_hosts : length hosts ≤ 64
  few_hosts =
      let first = element_at hosts 0 (let some = underway.servers.some_host in omega arith) in
      let server = underway.servers.each 0 first.0 first.1 in
      let few = server.is_host.is_share.few_hosts in
      let same = server.serves.hosts in
      let many = underway.servers.as_many in
      omega arith

  pub few_channels : length table.specs ≤ 8192
  few_channels =
      let few = few_hosts in
      let many = underway.servers.as_many in
      let packets = few_packets run.division (omega arith) in
      let specs = as_many_specs underway in
      omega arith

  pub few_flying : count_of table.flying ≤ 8192
  few_flying =
      let few = few_channels in
      let long = underway.is_table.flights in
      let count = count_of-le-length table.flying in
      omega arith

  pub few_who_may : (doing : Doing) → count_of (who_may doing hosts) ≤ 64
  few_who_may doing =
      let few = few_hosts in
      let long = length-map hosts (may_do doing) in
      let count = count_of-le-length (who_may doing hosts) in
      omega arith
