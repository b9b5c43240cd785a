-- What a host stands for within a round of a run.
use Rattle.std.specs.Prelude.{◌≡◌, ◌<◌, ◌≤◌, ◌==◌, ◌&&◌, ◌||◌, ℕ, suc, Bool, true, false, not, nat_lt, if◌then◌else◌, length}
use Rattle.std.specs.List.{filter, slice_index_or}
use Rattle.list_laws.specs.Among.{is_among}
use Rattle.reduce_laws.specs.ReductionLaws.{combined}
use Rattle.graph_division.specs.Division.{Division, hosts_of}
use Rattle.graph_division.specs.Lists.{is_readable, is_writable, reduce_list, broadcast_list}
use Rattle.round_packets.specs.Runs.{Run, moment_of, state_of, shows, contribution}
use Rattle.round_packets.specs.Packets.{carries}
use Rattle.round_packets.specs.RunPackets.{reduce_packet, kept, gathered}
use Rattle.host_laws.specs.HostView.{HostView, HoldsShare, vertex}

-- a proxy whose shown value counts: a master, or a mirror that is read
abbrev pub is_lit : {Program Item State Shown : Type 0} → Division → HostView Program Item State Shown → ℕ → Bool
is_lit division view l = nat_lt l view.masters || is_readable division view.host (vertex view l)

-- whether the host took the round's broadcast from the host of a vertex's master
abbrev pub was_told : {Program Item State Shown : Type 0} → Division → HostView Program Item State Shown → ℕ → Bool
was_told division view v = slice_index_or view.took_broadcast (division.master v) false

module _ {Program Item State Shown : Type 0} (run : Run Item State Shown) (rounds : ℕ) (view : HostView Program Item State Shown) where
  -- the sum of a master until its host spreads: what its own arcs contribute, if the host has computed,
  -- and what each reduce packet that it took carries for the vertex
  abbrev pub sum_so_far : ℕ → Item
  sum_so_far v =
      run.reducer.combine (if view.has_computed then contribution run rounds view.host v else run.reducer.identity)
      (combined run.reducer (λ from. gathered run rounds from v)
      (filter (λ from. slice_index_or view.took_reduce from false && carries run.item_size (reduce_packet run rounds from view.host) v) (hosts_of run.division)))

  -- what a mirror keeps: what it kept before the round, until its host computes; then what it gathered;
  -- and once it was told, or where items are not kept, what it keeps after the round
  abbrev pub kept_so_far : ℕ → Item
  kept_so_far v =
      if not view.has_computed then kept run rounds view.host v
      else (if not run.reducer.keeps || (was_told run.division view v && is_readable run.division view.host v) then kept run (suc rounds) view.host v
      else gathered run rounds view.host v)

  -- what a proxy shows in the next round, as far as its host knows
  abbrev pub shows_next : ℕ → Shown
  shows_next v =
      if (if run.division.master v == view.host then view.has_spread else was_told run.division view v) then shows run (suc rounds) v
      else shows run rounds v

-- the host has taken all reduce packets that it expects
abbrev pub HasAllReduced : {Program Item State Shown : Type 0} → Division → HostView Program Item State Shown → Type 0
HasAllReduced division view =
    (from v : ℕ) → from < division.hosts → is_among (reduce_list division from view.host) v ≡ true
    → slice_index_or view.took_reduce from false ≡ true

-- no proxy of the list that a host broadcasts to this one is written here
abbrev pub NoneIsWritten : {Program Item State Shown : Type 0} → Division → (from : ℕ) → HostView Program Item State Shown → Type 0
NoneIsWritten division from view =
    (v : ℕ) → v < division.nodes → is_among (broadcast_list division from view.host) v ≡ true
    → is_writable division view.host v ≡ false

-- a host within the round after so many
pub record StandsFor {Program Item State Shown : Type 0} (run : Run Item State Shown) (rounds : ℕ) (view : HostView Program Item State Shown) : Type 0 where
  pub share : HoldsShare run.division view
  -- a host that has spread has computed and has taken all reduce packets
  pub computed_first : view.has_spread ≡ true → view.has_computed ≡ true
  pub reduced_first : view.has_spread ≡ true → HasAllReduced run.division view
  -- a master's state is that of the whole graph, after the round from the spread on
  pub states : (l : ℕ) (d : State) → l < view.masters → slice_index_or view.states l d ≡ state_of run (if view.has_spread then suc rounds else rounds) (vertex view l)
  -- masters and mirrors that are read show and are awake as in the whole graph
  pub shown : (l : ℕ) (d : Shown) → l < length view.vertices → is_lit run.division view l ≡ true → slice_index_or view.shown l d ≡ shows run rounds (vertex view l)
  pub awake : (l : ℕ) → l < length view.vertices → is_lit run.division view l ≡ true → slice_index_or view.awake l false ≡ (moment_of run rounds).awake (vertex view l)
  -- so in the next round, as far as the host knows
  pub next : (l : ℕ) (d : Shown) → l < length view.vertices → is_lit run.division view l ≡ true → slice_index_or view.next l d ≡ shows_next run rounds view (vertex view l)
  pub awake_next : (l : ℕ) → l < length view.vertices → is_lit run.division view l ≡ true → slice_index_or view.awake_next l false ≡ not (run.steps.same (shows run rounds (vertex view l)) (shows_next run rounds view (vertex view l)))
  -- a master's sum, which is the identity from the spread on
  pub sums : (l : ℕ) (d : Item) → l < view.masters → slice_index_or view.items l d ≡ (if view.has_spread then run.reducer.identity else sum_so_far run rounds view (vertex view l))
  -- what a mirror that is written keeps
  pub keeps : (l : ℕ) (d : Item) → view.masters ≤ l → l < length view.vertices → is_writable run.division view.host (vertex view l) ≡ true → slice_index_or view.items l d ≡ kept_so_far run rounds view (vertex view l)
  -- no proxy that was told before its host computed is written
  pub told_early : view.has_computed ≡ false → (l : ℕ) → view.masters ≤ l → l < length view.vertices → was_told run.division view (vertex view l) ≡ true → is_readable run.division view.host (vertex view l) ≡ true → is_writable run.division view.host (vertex view l) ≡ false

-- the host has done all of this round
pub record IsDone {Program Item State Shown : Type 0} (division : Division) (view : HostView Program Item State Shown) : Type 0 where
  pub computed : view.has_computed ≡ true
  pub spread : view.has_spread ≡ true
  pub told : (v : ℕ) → v < division.nodes → (division.master v == view.host) ≡ false → is_readable division view.host v ≡ true → was_told division view v ≡ true

-- a host before the first round
pub record IsFresh {Program Item State Shown : Type 0} (run : Run Item State Shown) (view : HostView Program Item State Shown) : Type 0 where
  pub share : HoldsShare run.division view
  pub not_computed : view.has_computed ≡ false
  pub not_spread : view.has_spread ≡ false
  pub no_reduce : (from : ℕ) → slice_index_or view.took_reduce from false ≡ false
  pub no_broadcast : (from : ℕ) → slice_index_or view.took_broadcast from false ≡ false
  -- each vertex is at its start, shows that, and is awake
  pub start : (l : ℕ) (d : State) → l < view.masters → slice_index_or view.states l d ≡ run.steps.start (vertex view l)
  pub shown : (l : ℕ) (d : Shown) → l < length view.vertices → slice_index_or view.shown l d ≡ run.steps.shown (run.steps.start (vertex view l))
  pub next : (l : ℕ) (d : Shown) → l < length view.vertices → slice_index_or view.next l d ≡ run.steps.shown (run.steps.start (vertex view l))
  pub awake : (l : ℕ) → l < length view.vertices → slice_index_or view.awake l false ≡ true
  pub asleep_next : (l : ℕ) → l < length view.vertices → slice_index_or view.awake_next l false ≡ false
  -- sums are the identity, and mirrors keep what the start tells
  pub sums : (l : ℕ) (d : Item) → l < view.masters → slice_index_or view.items l d ≡ run.reducer.identity
  pub keeps : (l : ℕ) (d : Item) → view.masters ≤ l → l < length view.vertices → slice_index_or view.items l d ≡ run.steps.keep (run.steps.shown (run.steps.start (vertex view l)))
