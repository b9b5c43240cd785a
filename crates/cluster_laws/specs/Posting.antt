-- What a host posts is the round's packet: the marks and the values that it hands to the encoder are
-- those of the packet.
use Rattle.std.specs.Prelude.{◌≡◌, ◌<◌, ◌≤◌, ℕ, Bool, true, false, not, List, length, map, slice_index}
use Rattle.std.specs.List.{All, slice_index_or}
use Rattle.field_encodings.specs.Lists.{marks_at, values_at}
use Rattle.round_packets.specs.Runs.{Run, IsRun, contribution}
use Rattle.graph_division.specs.Lists.{is_writable, reduce_list, broadcast_list}
use Rattle.round_packets.specs.Packets.{Packet, marks_of}
use Rattle.round_packets.specs.RunPackets.{reduce_packet, broadcast_packet}
use Rattle.host_laws.specs.HostView.{HostView}
use Rattle.host_laws.specs.Standing.{StandsFor}

-- the local numbers of a list's proxies on a host
pub record AreLocals {Program Item State Shown : Type 0} (view : HostView Program Item State Shown) (ids locals : List ℕ) : Type 0 where
  pub within : All (λ l. l < length view.vertices) locals
  pub same_ids : map (slice_index view.vertices) locals ≡ ids

-- the items of a host once its arcs have contributed, and the bits of the mirrors that this changed
pub record HasGathered {Program Item State Shown : Type 0} (run : Run Item State Shown) (rounds : ℕ) (view : HostView Program Item State Shown) (items : List Item) (bits : List Bool) : Type 0 where
  pub long : length items ≡ length view.vertices
  pub gains : (l : ℕ) (d : Item) → view.masters ≤ l → l < length view.vertices → is_writable run.division view.host (slice_index view.vertices l) ≡ true
      → slice_index_or items l d ≡ run.reducer.combine (slice_index_or view.items l d) (contribution run rounds view.host (slice_index view.vertices l))
  pub grew : (l : ℕ) (d : Item) → view.masters ≤ l → l < length view.vertices → is_writable run.division view.host (slice_index view.vertices l) ≡ true
      → slice_index_or bits l false ≡ not (run.reducer.same (slice_index_or items l d) (slice_index_or view.items l d))

-- the marks and values are those of a packet
pub record IsPacket {X : Type 0} (packet : Packet X) (marks : List Bool) (values : List X) : Type 0 where
  pub same_marks : marks_of packet ≡ marks
  pub same_values : map packet.value packet.ids ≡ values

module _ {Item State Shown : Type 0} (Program : Type 0) (IsItem : Item → Type 0) (IsShown : Shown → Type 0) (IsState : State → Type 0) where
  -- what a host that computes posts for another is the round's reduce packet
  abbrev pub ReducesArePosted : Type 0
  ReducesArePosted =
      (run : Run Item State Shown) (rounds to : ℕ) (view : HostView Program Item State Shown) (items : List Item) (bits : List Bool) (locals : List ℕ)
      → IsRun IsItem IsShown IsState run → StandsFor run rounds view
      → view.has_computed ≡ false → HasGathered run rounds view items bits → AreLocals view (reduce_list run.division view.host to) locals
      → IsPacket (reduce_packet run rounds view.host to) (marks_at bits locals) (values_at items locals)

  -- what a host that has spread posts for another is the round's broadcast packet
  abbrev pub BroadcastsArePosted : Type 0
  BroadcastsArePosted =
      (run : Run Item State Shown) (rounds to : ℕ) (view : HostView Program Item State Shown) (locals : List ℕ)
      → IsRun IsItem IsShown IsState run → StandsFor run rounds view
      → view.has_spread ≡ true → length view.next ≡ length view.vertices → AreLocals view (broadcast_list run.division view.host to) locals
      → IsPacket (broadcast_packet run rounds view.host to) (marks_at view.awake_next locals) (values_at view.next locals)
