-- Events that may come can come, and every round can be brought to its end.
use Rattle.std.specs.Prelude.{◌≡◌, ◌<◌, ◌≤◌, ℕ, true, List, length}
use Rattle.graph_division.specs.Division.{Division}
use Rattle.round_packets.specs.Runs.{Run, IsRun}
use Rattle.host_laws.specs.HostView.{HostView}
use Rattle.cluster_laws.specs.Events.{Event}
use Rattle.cluster_laws.specs.Cluster.{ClusterView, ClusterStands, StandsBetween, IsOver, may_come}
use Rattle.cluster_laws.specs.Steps.{Step, StepsInTurn}

-- the lists of a host have a place for each proxy
pub record IsWhole {Program Item State Shown : Type 0} (view : HostView Program Item State Shown) : Type 0 where
  pub states_fit : view.masters ≤ length view.states
  pub shown_fit : length view.shown ≡ length view.vertices
  pub next_fit : length view.next ≡ length view.vertices
  pub items_fit : length view.items ≡ length view.vertices
  pub awake_next_fit : length view.awake_next ≡ length view.vertices

-- the lists of all hosts do
abbrev pub AreWhole : {Program Item State Shown : Type 0} → Division → ClusterView Program Item State Shown → Type 0
AreWhole division cluster = (h : ℕ) → h < division.hosts → IsWhole (cluster.hosts h)

module _ {Item State Shown : Type 0} (Program : Type 0) (IsItem : Item → Type 0) (IsShown : Shown → Type 0) (IsState : State → Type 0) (item_bytes : Item → List ℕ) (shown_bytes : Shown → List ℕ) where
  -- an event that may come has a step
  abbrev pub EventsHappen : Type 0
  EventsHappen =
      (run : Run Item State Shown) (rounds : ℕ) (event : Event) (cluster : ClusterView Program Item State Shown)
      → IsRun IsItem IsShown IsState run → ClusterStands item_bytes shown_bytes run rounds cluster
      → AreWhole run.division cluster → may_come run.division cluster event ≡ true → (new : ClusterView Program Item State Shown) × Step item_bytes shown_bytes run rounds event cluster new × AreWhole run.division new

  -- each round has events that bring it to its end
  abbrev pub RoundsEnd : Type 0
  RoundsEnd =
      (run : Run Item State Shown) (rounds : ℕ) (first : ClusterView Program Item State Shown)
      → IsRun IsItem IsShown IsState run → StandsBetween item_bytes shown_bytes run rounds first
      → AreWhole run.division first → (count : ℕ) × (last : ClusterView Program Item State Shown) × StepsInTurn item_bytes shown_bytes run rounds count first last × IsOver run.division last
