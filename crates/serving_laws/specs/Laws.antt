-- A host that serves a divided graph: what its calls do to its own fields is what the round of the whole
-- graph asks of it, and what it posts are the packets of that round.
use Rattle.std.specs.Prelude.{◌≡◌, ◌↔◌, ◌<◌, ℕ, Bool, true, false, List, map, All}
use Rattle.graph_division.specs.Division.{Division}
use Rattle.graph_division.specs.Lists.{is_readable, is_writable, reduce_list, broadcast_list}
use Rattle.graph_division.specs.Shares.{seen}
use Rattle.reduce_laws.specs.ReductionLaws.{Reducer}
use Rattle.reduce_laws.specs.ProgramLaws.{Steps}
use Rattle.address_memo.specs.Memos.{list_at}
use Rattle.field_encodings.specs.Forms.{entries}
use Rattle.field_encodings.specs.Packets.{packet_at}
use Rattle.round_packets.specs.Runs.{IsRun}
use Rattle.round_packets.specs.Packets.{tag_of, marks_of, bytes_of_packet}
use Rattle.round_packets.specs.RunPackets.{reduce_packet, broadcast_packet}
use Rattle.packet_table.specs.declared.channel_spec.Leg.TheVariants.{Reduce, Spread}
use Rattle.packet_table.specs.Table.{Table}
use Rattle.host_laws.specs.HostView.{HoldsShare}
use Rattle.host_laws.specs.Standing.{StandsFor, IsFresh, IsDone, HasAllReduced, NoneIsWritten}
use Rattle.host_laws.specs.Effects.{Computes, TakesReduce, Spreads, after_spread, TakesBroadcast}
use Rattle.cluster_laws.specs.Cluster.{may_spread}
use Rattle.host_state.specs.HostState.{HostState, IsHost}
use Rattle.host_state.specs.Serving.{run_of, Serves}
use Rattle.host_state.specs.Posting.{Posts}
use Rattle.host_state.specs.OwnEffects.{is_ready_to_spread, is_ready_to_close, NoneIsSent, ComputesOwn, TakesReduceOwn, TakesBroadcastOwn}
use Rattle.field_encodings.specs.Packets as field_packets

-- what a host knows of a division that it serves
pub record Knows {Program Item State Shown : Type 0} (division : Division) (host : HostState Program Item State Shown) : Type 0 where
  pub share : HoldsShare division host.view
  pub readable : (v : ℕ) → is_readable division host.view.host v ≡ is_readable (seen host.way host.graph) host.graph.host v
  pub writable : (v : ℕ) → is_writable division host.view.host v ≡ is_writable (seen host.way host.graph) host.graph.host v
  -- its four lists with a peer are the division's
  pub reduce_to : (peer : ℕ) → peer < host.graph.hosts → (list_at host.memo.reduce_to peer).globals ≡ reduce_list division host.view.host peer
  pub reduce_from : (peer : ℕ) → peer < host.graph.hosts → (list_at host.memo.reduce_from peer).globals ≡ reduce_list division peer host.view.host
  pub spread_to : (peer : ℕ) → peer < host.graph.hosts → (list_at host.memo.spread_to peer).globals ≡ broadcast_list division host.view.host peer
  pub spread_from : (peer : ℕ) → peer < host.graph.hosts → (list_at host.memo.spread_from peer).globals ≡ broadcast_list division peer host.view.host
  -- it can tell when it may spread, and when it has done all of a round
  pub ready_to_spread : is_ready_to_spread host ≡ may_spread division host.view
  pub ready_to_close : (is_ready_to_close host ≡ true) ↔ (HasAllReduced division host.view × IsDone division host.view)
  -- and which mirrors that it is told of are written here
  pub none_is_sent : (from : ℕ) → from < host.graph.hosts → NoneIsSent host from ↔ NoneIsWritten division from host.view

-- every host that serves a division knows it so
abbrev pub ServingKnows : (Program Item State Shown : Type 0) → Type 0
ServingKnows Program Item State Shown = (division : Division) (host : HostState Program Item State Shown) → IsHost host → Serves division host → Knows division host

module _ {Item State Shown : Type 0} (Program : Type 0) (IsItem : Item → Type 0) (IsShown : Shown → Type 0) (IsState : State → Type 0) (reducer : Reducer Item) (steps : Steps Item State Shown) (item_size shown_size : ℕ) where
  -- the host serves a division on which the program runs
  pub record IsServing (division : Division) (host : HostState Program Item State Shown) : Type 0 where
    pub is_host : IsHost host
    pub serves : Serves division host
    pub is_run : IsRun IsItem IsShown IsState (run_of reducer steps item_size shown_size division)

  -- a host that is fresh as far as it can tell is a fresh host of the run
  abbrev pub FreshServes : Type 0
  FreshServes =
      (division : Division) (host : HostState Program Item State Shown) → IsHost host → Serves division host
      → IsFresh (run_of reducer steps item_size shown_size (seen host.way host.graph)) host.view
      → IsFresh (run_of reducer steps item_size shown_size division) host.view

  -- a host that computes by its own fields computes as the round asks, and posts the round's reduce packets
  pub record ComputesRound (item_bytes : Item → List ℕ) (division : Division) (rounds : ℕ) (host : HostState Program Item State Shown) (items : List Item) (old new : Table) : Type 0 where
    pub effect : Computes (run_of reducer steps item_size shown_size division) rounds host.view items
    pub posts : Posts Reduce host.view.host host.memo.reduce_to
        (λ to. bytes_of_packet item_size item_bytes (reduce_packet (run_of reducer steps item_size shown_size division) rounds host.view.host to))
        old new

  abbrev pub ComputeServes : (item_bytes : Item → List ℕ) → Type 0
  ComputeServes item_bytes =
      (division : Division) (rounds : ℕ) (host : HostState Program Item State Shown) (items : List Item) (old new : Table)
      → IsServing division host → StandsFor (run_of reducer steps item_size shown_size division) rounds host.view → host.view.has_computed ≡ false
      → All IsItem host.view.items
      → ComputesOwn host reducer steps item_size item_bytes items old new
      → ComputesRound item_bytes division rounds host items old new

  -- a host that takes the entries of the round's reduce packet takes it as the round asks
  abbrev pub TakeReduceServes : Type 0
  TakeReduceServes =
      (division : Division) (rounds from : ℕ) (host : HostState Program Item State Shown) (items : List Item)
      → IsServing division host → StandsFor (run_of reducer steps item_size shown_size division) rounds host.view → from < host.graph.hosts
      → (let packet = reduce_packet (run_of reducer steps item_size shown_size division) rounds from host.view.host in
      TakesReduceOwn host reducer (list_at host.memo.reduce_from from) (entries (tag_of item_size packet) (marks_of packet) (map packet.value packet.ids)) items)
      → TakesReduce (run_of reducer steps item_size shown_size division) rounds from host.view items

  -- a host that has spread by its own fields has spread as the round asks, and what it posts are the round's broadcast packets
  pub record SpreadsRound (shown_bytes : Shown → List ℕ) (division : Division) (rounds : ℕ) (host : HostState Program Item State Shown) (states : List State) (next : List Shown) (items : List Item) (awake_next : List Bool) (old new : Table) : Type 0 where
    pub effect : Spreads (run_of reducer steps item_size shown_size division) host.view states next items awake_next
    pub posts : Posts Spread host.view.host host.memo.spread_to
        (λ to. bytes_of_packet shown_size shown_bytes (broadcast_packet (run_of reducer steps item_size shown_size division) rounds host.view.host to))
        old new

  abbrev pub SpreadServes : (shown_bytes : Shown → List ℕ) → Type 0
  SpreadServes shown_bytes =
      (division : Division) (rounds : ℕ) (host : HostState Program Item State Shown) (states : List State) (next : List Shown) (items : List Item) (awake_next : List Bool) (old new : Table)
      → IsServing division host → StandsFor (run_of reducer steps item_size shown_size division) rounds host.view
      → is_ready_to_spread host ≡ true
      → IsHost (record host { view = after_spread host.view states next items awake_next })
      → Spreads (run_of reducer steps item_size shown_size (seen host.way host.graph)) host.view states next items awake_next
      → Posts Spread host.view.host host.memo.spread_to
      (λ to. field_packets.bytes_of_packet shown_size shown_bytes (packet_at next (list_at host.memo.spread_to to).locals (list_at host.memo.spread_to to).globals awake_next))
      old new
      → SpreadsRound shown_bytes division rounds host states next items awake_next old new

  -- a host that takes the entries of the round's broadcast packet takes it as the round asks
  abbrev pub TakeBroadcastServes : (eq : Shown → Shown → Bool) → Type 0
  TakeBroadcastServes eq =
      (division : Division) (rounds from : ℕ) (host : HostState Program Item State Shown) (next : List Shown) (items : List Item) (awake_next : List Bool)
      → IsServing division host → StandsFor (run_of reducer steps item_size shown_size division) rounds host.view → from < host.graph.hosts
      → All IsShown host.view.shown
      → (let packet = broadcast_packet (run_of reducer steps item_size shown_size division) rounds from host.view.host in
      TakesBroadcastOwn host reducer steps eq (list_at host.memo.spread_from from) (entries (tag_of shown_size packet) (marks_of packet) (map packet.value packet.ids)) next items awake_next)
      → TakesBroadcast (run_of reducer steps item_size shown_size division) rounds from host.view next items awake_next
