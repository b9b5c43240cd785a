-- One round of a cluster: events keep what it stands for, do not run out before the round is over, and
-- bring it to the next moment between rounds.
use Rattle.std.specs.Prelude.{◌≡◌, ◌↔◌, ◌⊎◌, ◌<◌, ◌+◌, ◌*◌, ℕ, suc, true, false, List, length}
use Rattle.std.specs.List.{sum_by}
use Rattle.round_packets.specs.Runs.{Run, IsRun}
use Rattle.graph_division.specs.Division.{hosts_of}
use Rattle.host_laws.specs.Standing.{IsFresh, IsDone, NoneIsWritten}
use Rattle.cluster_laws.specs.Channels.{Channel, is_channel, channels, payload}
use Rattle.cluster_laws.specs.Channels.Leg.{reduce, broadcast}
use Rattle.cluster_laws.specs.Events.{Event}
use Rattle.cluster_laws.specs.Cluster.{ClusterView, ClusterStands, StandsBetween, IsOver, enabled, yet_to_come}
use Rattle.cluster_laws.specs.Steps.{Step, StepsInTurn, Closes}
use Rattle.cluster_laws.specs.Tally.{packets_of, bytes_of_round, changed, woken}

module _ {Item State Shown : Type 0} (Program : Type 0) (IsItem : Item → Type 0) (IsShown : Shown → Type 0) (IsState : State → Type 0) (item_bytes : Item → List ℕ) (shown_bytes : Shown → List ℕ) where
  -- a cluster of fresh hosts, with nothing in flight, stands for the moment before the first round
  abbrev pub FreshStandsBetween : Type 0
  FreshStandsBetween =
      (run : Run Item State Shown) (cluster : ClusterView Program Item State Shown)
      → IsRun IsItem IsShown IsState run
      → ((h : ℕ) → h < run.division.hosts → IsFresh run (cluster.hosts h)) → ((h : ℕ) → h < run.division.hosts → (cluster.hosts h).host ≡ h) → ((channel : Channel) → cluster.flies channel ≡ false)
      → StandsBetween item_bytes shown_bytes run 0 cluster

  -- what is in flight is the round's packet
  abbrev pub FlightsCarryPackets : Type 0
  FlightsCarryPackets =
      (run : Run Item State Shown) (rounds : ℕ) (cluster : ClusterView Program Item State Shown) (channel : Channel)
      → ClusterStands item_bytes shown_bytes run rounds cluster
      → cluster.flies channel ≡ true → cluster.bytes channel ≡ payload item_bytes shown_bytes run rounds channel

  -- a reduce packet is in flight only to a host that has not spread
  abbrev pub ReducesComeInTime : Type 0
  ReducesComeInTime =
      (run : Run Item State Shown) (rounds from to : ℕ) (cluster : ClusterView Program Item State Shown)
      → ClusterStands item_bytes shown_bytes run rounds cluster
      → cluster.flies (record { leg = reduce; from = from; to = to }) ≡ true → (cluster.hosts to).has_spread ≡ false

  -- where a broadcast comes before its receiver has computed, none of its list is written there
  abbrev pub BroadcastsComeInTime : Type 0
  BroadcastsComeInTime =
      (run : Run Item State Shown) (rounds from to : ℕ) (cluster : ClusterView Program Item State Shown)
      → IsRun IsItem IsShown IsState run → ClusterStands item_bytes shown_bytes run rounds cluster
      → cluster.flies (record { leg = broadcast; from = from; to = to }) ≡ true → ((cluster.hosts to).has_computed ≡ true) ⊎ NoneIsWritten run.division from (cluster.hosts to)

  -- each event keeps what the cluster stands for
  abbrev pub StepKeeps : Type 0
  StepKeeps =
      (run : Run Item State Shown) (rounds : ℕ) (event : Event) (cluster new : ClusterView Program Item State Shown)
      → IsRun IsItem IsShown IsState run → ClusterStands item_bytes shown_bytes run rounds cluster
      → Step item_bytes shown_bytes run rounds event cluster new → ClusterStands item_bytes shown_bytes run rounds new

  -- a round is over exactly where no event may come, and exactly where none is yet to come
  abbrev pub OverIsEnd : Type 0
  OverIsEnd =
      (run : Run Item State Shown) (rounds : ℕ) (cluster : ClusterView Program Item State Shown)
      → IsRun IsItem IsShown IsState run → ClusterStands item_bytes shown_bytes run rounds cluster
      → ((length (enabled run.division cluster) ≡ 0) ↔ IsOver run.division cluster) × ((yet_to_come run.division cluster ≡ 0) ↔ IsOver run.division cluster)

  -- where a round is over, each host has done all of it
  abbrev pub OverIsDone : Type 0
  OverIsDone =
      (run : Run Item State Shown) (rounds h : ℕ) (cluster : ClusterView Program Item State Shown)
      → IsRun IsItem IsShown IsState run → ClusterStands item_bytes shown_bytes run rounds cluster
      → IsOver run.division cluster → h < run.division.hosts → IsDone run.division (cluster.hosts h)

  -- events in turn keep what the cluster stands for, and each leaves one fewer to come
  abbrev pub StepsKeep : Type 0
  StepsKeep =
      (run : Run Item State Shown) (rounds count : ℕ) (first cluster : ClusterView Program Item State Shown)
      → IsRun IsItem IsShown IsState run → StandsBetween item_bytes shown_bytes run rounds first
      → StepsInTurn item_bytes shown_bytes run rounds count first cluster
      → ClusterStands item_bytes shown_bytes run rounds cluster × (count + yet_to_come run.division cluster ≡ 2 * run.division.hosts + packets_of run.division)

  -- what a round comes to, once it is over and all hosts are closed
  pub record RoundIsDone (run : Run Item State Shown) (rounds count : ℕ) (cluster new : ClusterView Program Item State Shown) : Type 0 where
    -- the cluster stands for the moment before the next round
    pub stands : StandsBetween item_bytes shown_bytes run (suc rounds) new
    -- two events came for each host, and one for each packet
    pub events : count ≡ 2 * run.division.hosts + packets_of run.division
    -- each channel has the bytes of the round's packet, and together these are as many as the round's
    pub packets : (channel : Channel) → is_channel run.division channel ≡ true → new.bytes channel ≡ payload item_bytes shown_bytes run rounds channel
    pub lengths : sum_by (λ channel. length (new.bytes channel)) (channels run.division) ≡ bytes_of_round item_bytes shown_bytes run rounds
    -- as many masters woke as vertices show something new
    pub new_shown : sum_by (λ h. woken (cluster.hosts h)) (hosts_of run.division) ≡ changed run rounds

  -- events that end a round bring the cluster from one moment between rounds to the next
  abbrev pub OneRound : Type 0
  OneRound =
      (run : Run Item State Shown) (rounds count : ℕ) (first cluster new : ClusterView Program Item State Shown)
      → IsRun IsItem IsShown IsState run → StandsBetween item_bytes shown_bytes run rounds first
      → StepsInTurn item_bytes shown_bytes run rounds count first cluster → IsOver run.division cluster → Closes run.division cluster new
      → RoundIsDone run rounds count cluster new
