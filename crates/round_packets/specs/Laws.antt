-- The laws on which synchronisation rests.
use Rattle.std.specs.Prelude.{◌≡◌, ◌<◌, ℕ, suc, true, false, List, map, All}
use Rattle.list_laws.specs.Among.{is_among}
use Rattle.field_encodings.specs.Forms.{entries}
use Rattle.graph_division.specs.Lists.{broadcast_list}
use Rattle.round_packets.specs.Runs.{Run, IsRun, state_of, shows}
use Rattle.round_packets.specs.Packets.{Packet, Agree, IsFormOf, tag_of, marks_of, bytes_of_packet, carries, carried_value, value_for}
use Rattle.round_packets.specs.RunPackets.{reduce_packet, broadcast_packet, kept, given}

-- where items are kept, what a mirror keeps does not move its master
abbrev pub KeptIsNoNews : {Item State Shown : Type 0} → (Item → Type 0) → (Shown → Type 0) → (State → Type 0) → Type 0
KeptIsNoNews {Item} {State} {Shown} IsItem IsShown IsState =
    (run : Run Item State Shown) (rounds host v : ℕ) → IsRun IsItem IsShown IsState run → run.reducer.keeps ≡ true
    → host < run.division.hosts → v < run.division.nodes
    → run.steps.settle (state_of run rounds v) (kept run rounds host v) ≡ state_of run rounds v

-- what a master is given settles it as the round of the whole graph does
abbrev pub GivenSettles : {Item State Shown : Type 0} → (Item → Type 0) → (Shown → Type 0) → (State → Type 0) → Type 0
GivenSettles {Item} {State} {Shown} IsItem IsShown IsState =
    (run : Run Item State Shown) (rounds v : ℕ) → IsRun IsItem IsShown IsState run → v < run.division.nodes
    → run.steps.settle (state_of run rounds v) (given run rounds v) ≡ state_of run (suc rounds) v

-- the entries of the form that is sent are those of the vertices that a packet carries, with their values
abbrev pub EntriesAreCarried : (X : Type 0) → Type 0
EntriesAreCarried X =
    (size v : ℕ) (packet : Packet X)
    → value_for packet.ids (entries (tag_of size packet) (marks_of packet) (map packet.value packet.ids)) v ≡ carried_value size packet v

-- packets that agree have the same bytes
abbrev pub AgreeingHaveSameBytes : (X : Type 0) → Type 0
AgreeingHaveSameBytes X =
    (size : ℕ) (bytes_of : X → List ℕ) (packet other : Packet X) → Agree packet other
    → bytes_of_packet size bytes_of packet ≡ bytes_of_packet size bytes_of other

-- a vertex that is listed for a broadcast and not carried by it shows what it showed before
abbrev pub UntoldIsUnchanged : {Item State Shown : Type 0} → (Item → Type 0) → (Shown → Type 0) → (State → Type 0) → Type 0
UntoldIsUnchanged {Item} {State} {Shown} IsItem IsShown IsState =
    (run : Run Item State Shown) (rounds from to v : ℕ) → IsRun IsItem IsShown IsState run → v < run.division.nodes
    → is_among (broadcast_list run.division from to) v ≡ true
    → carries run.shown_size (broadcast_packet run rounds from to) v ≡ false
    → shows run (suc rounds) v ≡ shows run rounds v

-- what is sent of a reduce packet is a form for its list, so no check of its receiver fails
abbrev pub ReducesAreForms : {Item State Shown : Type 0} → (Item → Type 0) → (Shown → Type 0) → (State → Type 0) → (Item → List ℕ) → Type 0
ReducesAreForms {Item} {State} {Shown} IsItem IsShown IsState item_bytes =
    (run : Run Item State Shown) (rounds from to : ℕ) → IsRun IsItem IsShown IsState run
    → IsFormOf IsItem item_bytes run.item_size (reduce_packet run rounds from to) (bytes_of_packet run.item_size item_bytes (reduce_packet run rounds from to))

-- what is sent of a broadcast packet is a form for its list
abbrev pub BroadcastsAreForms : {Item State Shown : Type 0} → (Item → Type 0) → (Shown → Type 0) → (State → Type 0) → (Shown → List ℕ) → Type 0
BroadcastsAreForms {Item} {State} {Shown} IsItem IsShown IsState shown_bytes =
    (run : Run Item State Shown) (rounds from to : ℕ) → IsRun IsItem IsShown IsState run
    → IsFormOf IsShown shown_bytes run.shown_size (broadcast_packet run rounds from to) (bytes_of_packet run.shown_size shown_bytes (broadcast_packet run rounds from to))
