-- Each event keeps what its host stands for, and the next round begins as it should.
use Rattle.std.specs.Prelude.{◌≡◌, ◌⊎◌, ◌<◌, ℕ, suc, true, false, Bool, List}
use Rattle.std.specs.List.{slice_index_or}
use Rattle.round_packets.specs.Runs.{Run, IsRun}
use Rattle.host_laws.specs.HostView.{HostView}
use Rattle.host_laws.specs.Standing.{StandsFor, IsFresh, IsDone, HasAllReduced, NoneIsWritten}
use Rattle.host_laws.specs.Effects.{Computes, after_compute, TakesReduce, after_reduce, Spreads, after_spread, TakesBroadcast, after_broadcast, closed}

-- a fresh host stands for the moment before the first round
abbrev pub FreshStands : {Item State Shown : Type 0} → (Program : Type 0) → (Item → Type 0) → (Shown → Type 0) → (State → Type 0) → Type 0
FreshStands {Item} {State} {Shown} Program IsItem IsShown IsState =
    (run : Run Item State Shown) (view : HostView Program Item State Shown)
    → IsRun IsItem IsShown IsState run → IsFresh run view → StandsFor run 0 view

-- a host that computes stands for the same round
abbrev pub ComputeStands : {Item State Shown : Type 0} → (Program : Type 0) → (Item → Type 0) → (Shown → Type 0) → (State → Type 0) → Type 0
ComputeStands {Item} {State} {Shown} Program IsItem IsShown IsState =
    (run : Run Item State Shown) (rounds : ℕ) (view : HostView Program Item State Shown) (items : List Item)
    → IsRun IsItem IsShown IsState run → StandsFor run rounds view
    → view.has_computed ≡ false → Computes run rounds view items
    → StandsFor run rounds (after_compute view items)

-- a host that takes a reduce packet stands for the same round
abbrev pub TakeReduceStands : {Item State Shown : Type 0} → (Program : Type 0) → (Item → Type 0) → (Shown → Type 0) → (State → Type 0) → Type 0
TakeReduceStands {Item} {State} {Shown} Program IsItem IsShown IsState =
    (run : Run Item State Shown) (rounds : ℕ) (view : HostView Program Item State Shown) (from : ℕ) (items : List Item)
    → IsRun IsItem IsShown IsState run → StandsFor run rounds view
    → from < run.division.hosts → slice_index_or view.took_reduce from false ≡ false → view.has_spread ≡ false → TakesReduce run rounds from view items
    → StandsFor run rounds (after_reduce from view items)

-- a host that spreads stands for the same round
abbrev pub SpreadStands : {Item State Shown : Type 0} → (Program : Type 0) → (Item → Type 0) → (Shown → Type 0) → (State → Type 0) → Type 0
SpreadStands {Item} {State} {Shown} Program IsItem IsShown IsState =
    (run : Run Item State Shown) (rounds : ℕ) (view : HostView Program Item State Shown) (states : List State) (next : List Shown) (items : List Item) (awake_next : List Bool)
    → IsRun IsItem IsShown IsState run → StandsFor run rounds view
    → view.has_computed ≡ true → HasAllReduced run.division view → view.has_spread ≡ false → Spreads run view states next items awake_next
    → StandsFor run rounds (after_spread view states next items awake_next)

-- a host that takes a broadcast packet stands for the same round
abbrev pub TakeBroadcastStands : {Item State Shown : Type 0} → (Program : Type 0) → (Item → Type 0) → (Shown → Type 0) → (State → Type 0) → Type 0
TakeBroadcastStands {Item} {State} {Shown} Program IsItem IsShown IsState =
    (run : Run Item State Shown) (rounds : ℕ) (view : HostView Program Item State Shown) (from : ℕ) (next : List Shown) (items : List Item) (awake_next : List Bool)
    → IsRun IsItem IsShown IsState run → StandsFor run rounds view
    → from < run.division.hosts → slice_index_or view.took_broadcast from false ≡ false → (view.has_computed ≡ true) ⊎ NoneIsWritten run.division from view → TakesBroadcast run rounds from view next items awake_next
    → StandsFor run rounds (after_broadcast from view next items awake_next)

-- a host that has done all of a round stands for the next one once it is closed
abbrev pub CloseStands : {Item State Shown : Type 0} → (Program : Type 0) → (Item → Type 0) → (Shown → Type 0) → (State → Type 0) → Type 0
CloseStands {Item} {State} {Shown} Program IsItem IsShown IsState =
    (run : Run Item State Shown) (rounds : ℕ) (view : HostView Program Item State Shown)
    → IsRun IsItem IsShown IsState run → StandsFor run rounds view
    → IsDone run.division view
    → StandsFor run (suc rounds) (closed view)
