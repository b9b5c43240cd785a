-- What each event does to the fields of its host.
use Rattle.std.specs.Prelude.{◌≡◌, ◌<◌, ◌≤◌, ◌&&◌, ℕ, Bool, true, false, not, if◌then◌else◌, List, length, slice_set, replicate, Option, Some, None}
use Rattle.std.specs.List.{slice_index_or}
use Rattle.std.specs.Option.{unwrap_or}
use Rattle.reduce_laws.specs.ReductionLaws.{Reducer}
use Rattle.graph_division.specs.Lists.{is_writable}
use Rattle.round_packets.specs.Runs.{Run, contribution}
use Rattle.round_packets.specs.Packets.{carries, carried_value}
use Rattle.round_packets.specs.RunPackets.{reduce_packet, broadcast_packet}
use Rattle.host_laws.specs.HostView.{HostView, vertex}

-- an item, combined with another one if there is one
abbrev pub and_maybe : {Item : Type 0} → Reducer Item → Item → Option Item → Item
and_maybe reducer item None = item
and_maybe reducer item (Some more) = reducer.combine item more

-- the host computes in the round after so many, and then has these items
pub record Computes {Program Item State Shown : Type 0} (run : Run Item State Shown) (rounds : ℕ) (view : HostView Program Item State Shown) (items : List Item) : Type 0 where
  -- each master's sum gains what the host's arcs contribute
  pub masters : (l : ℕ) (d : Item) → l < view.masters → slice_index_or items l d
      ≡ run.reducer.combine (slice_index_or view.items l d) (contribution run rounds view.host (vertex view l))
  -- so does what a mirror that is written keeps; where items are not kept, it is set back once it is sent
  pub mirrors : (l : ℕ) (d : Item) → view.masters ≤ l → l < length view.vertices → is_writable run.division view.host (vertex view l) ≡ true → slice_index_or items l d
      ≡ (if run.reducer.keeps then run.reducer.combine (slice_index_or view.items l d) (contribution run rounds view.host (vertex view l)) else run.reducer.identity)

-- the host after that
abbrev pub after_compute : {Program Item State Shown : Type 0} → HostView Program Item State Shown → List Item → HostView Program Item State Shown
after_compute view items = record view { items = items; has_computed = true }

-- the host takes a host's reduce packet of the round after so many, and then has these items
pub record TakesReduce {Program Item State Shown : Type 0} (run : Run Item State Shown) (rounds from : ℕ) (view : HostView Program Item State Shown) (items : List Item) : Type 0 where
  -- each master's sum gains what the packet carries for it
  pub masters : (l : ℕ) (d : Item) → l < view.masters → slice_index_or items l d
      ≡ and_maybe run.reducer (slice_index_or view.items l d) (carried_value run.item_size (reduce_packet run rounds from view.host) (vertex view l))
  -- mirrors keep what they kept
  pub mirrors : (l : ℕ) (d : Item) → view.masters ≤ l → slice_index_or items l d ≡ slice_index_or view.items l d

-- the host after that
abbrev pub after_reduce : {Program Item State Shown : Type 0} → (from : ℕ) → HostView Program Item State Shown → List Item → HostView Program Item State Shown
after_reduce from view items = record view { items = items; took_reduce = slice_set view.took_reduce from true }

-- the host spreads, and then has these fields
pub record Spreads {Program Item State Shown : Type 0} (run : Run Item State Shown) (view : HostView Program Item State Shown) (states : List State) (next : List Shown) (items : List Item) (awake_next : List Bool) : Type 0 where
  -- each master settles with its sum, which is set back
  pub settles : (l : ℕ) (s : State) (x : Item) → l < view.masters → slice_index_or states l s ≡ run.steps.settle (slice_index_or view.states l s) (slice_index_or view.items l x)
  pub sums : (l : ℕ) (x : Item) → l < view.masters → slice_index_or items l x ≡ run.reducer.identity
  -- it shows that in the next round, and is awake where it shows something new
  pub shows_next_state : (l : ℕ) (s : State) (y : Shown) → l < view.masters → slice_index_or next l y ≡ run.steps.shown (slice_index_or states l s)
  pub wakes : (l : ℕ) (y : Shown) → l < view.masters → slice_index_or awake_next l false ≡ not (run.steps.same (slice_index_or view.shown l y) (slice_index_or next l y))
  -- mirrors have what they had
  pub items_of_mirrors : (l : ℕ) (x : Item) → view.masters ≤ l → slice_index_or items l x ≡ slice_index_or view.items l x
  pub next_of_mirrors : (l : ℕ) (y : Shown) → view.masters ≤ l → slice_index_or next l y ≡ slice_index_or view.next l y
  pub awake_of_mirrors : (l : ℕ) → view.masters ≤ l → slice_index_or awake_next l false ≡ slice_index_or view.awake_next l false

-- the host after that
abbrev pub after_spread : {Program Item State Shown : Type 0} → HostView Program Item State Shown → List State → List Shown → List Item → List Bool → HostView Program Item State Shown
after_spread view states next items awake_next = record view { states = states; next = next; items = items; awake_next = awake_next; has_spread = true }

-- the host takes a host's broadcast packet of the round after so many, and then has these fields
pub record TakesBroadcast {Program Item State Shown : Type 0} (run : Run Item State Shown) (rounds from : ℕ) (view : HostView Program Item State Shown) (next : List Shown) (items : List Item) (awake_next : List Bool) : Type 0 where
  -- a mirror that is carried shows what the packet has for it in the next round, and is awake where that is new
  pub told : (l : ℕ) (y : Shown) → view.masters ≤ l → l < length view.vertices → slice_index_or next l y
      ≡ unwrap_or (carried_value run.shown_size (broadcast_packet run rounds from view.host) (vertex view l)) (slice_index_or view.next l y)
  pub wakes : (l : ℕ) (y : Shown) → view.masters ≤ l → l < length view.vertices → slice_index_or awake_next l false
      ≡ (if carries run.shown_size (broadcast_packet run rounds from view.host) (vertex view l) && not (run.steps.same (slice_index_or view.shown l y) (slice_index_or next l y)) then true else slice_index_or view.awake_next l false)
  -- where items are kept, a mirror that is written and carried keeps what it was told
  pub keeps : (l : ℕ) (x : Item) (y : Shown) → view.masters ≤ l → l < length view.vertices → is_writable run.division view.host (vertex view l) ≡ true → slice_index_or items l x
      ≡ (if run.reducer.keeps && carries run.shown_size (broadcast_packet run rounds from view.host) (vertex view l) then run.steps.keep (slice_index_or next l y) else slice_index_or view.items l x)
  -- masters have what they had
  pub next_of_masters : (l : ℕ) (y : Shown) → l < view.masters → slice_index_or next l y ≡ slice_index_or view.next l y
  pub awake_of_masters : (l : ℕ) → l < view.masters → slice_index_or awake_next l false ≡ slice_index_or view.awake_next l false
  pub sums : (l : ℕ) (x : Item) → l < view.masters → slice_index_or items l x ≡ slice_index_or view.items l x

-- the host after that
abbrev pub after_broadcast : {Program Item State Shown : Type 0} → (from : ℕ) → HostView Program Item State Shown → List Shown → List Item → List Bool → HostView Program Item State Shown
after_broadcast from view next items awake_next = record view { next = next; items = items; awake_next = awake_next; took_broadcast = slice_set view.took_broadcast from true }

-- the host once the next round begins
abbrev pub closed : {Program Item State Shown : Type 0} → HostView Program Item State Shown → HostView Program Item State Shown
closed view = record view {
  shown = view.next;
  awake = view.awake_next;
  awake_next = replicate (length view.awake_next) false;
  has_computed = false;
  has_spread = false;
  took_reduce = replicate (length view.took_reduce) false;
  took_broadcast = replicate (length view.took_broadcast) false;
}
