-- What a host's call does is an event of the round.
use Rattle.std.proofs.Common.{◌≡◌, ℕ, true, false, not, nat_lt, List, map, slice_get, slice_set, IsSomeAnd, Option, Some, sym, ap, subst, ◌∙◌}
use Rattle.std.specs.List.{slice_index_or}
use Rattle.std.proofs.lemmas.Bool.{lt-ltb, and_from, and_parts}
use Rattle.reduce_laws.specs.ReductionLaws.{Reducer}
use Rattle.reduce_laws.specs.ProgramLaws.{Steps}
use Rattle.graph_division.specs.Division.{Division}
use Rattle.packet_table.specs.declared.channel_spec.Leg.TheVariants.{Reduce, Spread}
use Rattle.packet_table.specs.Table.{Table, IsTable}
use Rattle.round_packets.specs.Runs.{Run, IsRun}
use Rattle.host_laws.specs.HostView.{HostView}
use Rattle.host_laws.specs.Standing.{StandsFor}
use Rattle.host_laws.specs.Effects.{after_compute, after_spread}
use Rattle.host_state.specs.HostState.{HostState, IsHost}
use Rattle.host_state.specs.Serving.{run_of, Serves}
use Rattle.host_state.specs.Posting.{IsReady}
use Rattle.host_state.specs.OwnEffects.{is_ready_to_spread, expects}
use Rattle.host_core.specs.Calls.{StaysItself, ComputesIn, SpreadsIn}
use Rattle.cluster_laws.specs.Channels.Leg.{reduce, broadcast}
use Rattle.cluster_laws.specs.Cluster.{may_spread}
use Rattle.cluster_laws.proofs.InTime.{denied, first_false}
use Rattle.serving_laws.proofs.Posting.{long_reduces, long_spreads}
use Rattle.round_driver.specs.Underway.{Underway, Turns}
use Rattle.round_driver.proofs.Moving.{server, number_within, knows, view_at, host_stands, is_ready}
use Rattle.round_driver.proofs.Posting.{post_turns}

-- what holds of an element holds of the one that is there
pub some_and : {X : Type 0} (P : X → Type 0) (o : Option X) (x : X) → o ≡ Some x → IsSomeAnd o P → P x
some_and {X} P o x is holds = subst (λ (other : Option X). IsSomeAnd other P) is holds

module _ {Program Item State Shown : Type 0} {IsItem : Item → Type 0} {IsShown : Shown → Type 0} {IsState : State → Type 0} {item_bytes : Item → List ℕ} {shown_bytes : Shown → List ℕ}
    (reducer : Reducer Item) (steps : Program → Steps Item State Shown) (item_size shown_size : ℕ) (program : Program) (division : Division) (rounds : ℕ) {hosts : List (HostState Program Item State Shown)} {table : Table}
    (underway : Underway IsItem IsShown IsState item_bytes shown_bytes (run_of reducer (steps program) item_size shown_size division) program rounds hosts table)
    (number : ℕ) (host : HostState Program Item State Shown) (at : slice_get hosts number ≡ Some host) where
  -- the run of the program that a host runs
  abbrev run_by : Program → Run Item State Shown
  run_by p = run_of reducer (steps p) item_size shown_size division

  has_not_computed : not host.view.has_computed ≡ true → host.view.has_computed ≡ false
  has_not_computed may = denied host.view.has_computed may

  pub ready_to_compute : not host.view.has_computed ≡ true → IsReady Reduce host.view.host item_size host.memo.reduce_to table
  ready_to_compute may =
      let here = server underway number host at in
      is_ready underway number host at reduce host.memo.reduce_to (long_reduces division host here.is_host here.serves) (knows underway number host at).reduce_to
      (λ to.
      ap (λ n. (slice_index_or (map (λ (h : HostState Program Item State Shown). h.view) hosts) n host.view).has_computed) here.of_number
      ∙ ap (λ (view : HostView Program Item State Shown). view.has_computed) (view_at underway number host at host.view)
      ∙ has_not_computed may)

  pub compute_turns : not host.view.has_computed ≡ true → (new : HostState Program Item State Shown) (new_table : Table) → IsTable new_table → IsHost new → StaysItself host new → new.view ≡ after_compute host.view new.view.items
      → ((d : Division) (r : ℕ) → Serves d host → IsRun IsItem IsShown IsState (run_of reducer (steps host.view.program) item_size shown_size d) → StandsFor (run_of reducer (steps host.view.program) item_size shown_size d) r host.view
      → ComputesIn reducer (steps host.view.program) item_size shown_size d r host new item_bytes table new_table)
      → Turns IsItem IsShown IsState item_bytes shown_bytes (run_of reducer (steps program) item_size shown_size division) program rounds hosts table (slice_set hosts number new) new_table
  compute_turns may new new_table is_table is_host stays becomes serves =
      let here = server underway number host at in
      let does : ComputesIn reducer (steps program) item_size shown_size division rounds host new item_bytes table new_table
      = subst (λ p. IsRun IsItem IsShown IsState (run_by p) → StandsFor (run_by p) rounds host.view → ComputesIn reducer (steps p) item_size shown_size division rounds host new item_bytes table new_table)
      here.runs (serves division rounds here.serves) underway.is_run (host_stands underway number host at) in
      post_turns underway number host at reduce host.memo.reduce_to (knows underway number host at).reduce_to new new_table is_table does.posts does.becomes
      (λ spare. and_from (nat_lt number division.hosts) (not (slice_index_or (map (λ (h : HostState Program Item State Shown). h.view) hosts) number spare).has_computed)
      (lt-ltb number division.hosts (number_within underway number host at))
      (ap (λ (view : HostView Program Item State Shown). not view.has_computed) (view_at underway number host at spare) ∙ may))
      stays is_host (ap (λ (view : HostView Program Item State Shown). view.host) becomes) (ap (λ (view : HostView Program Item State Shown). view.program) becomes)

  has_not_spread : is_ready_to_spread host ≡ true → host.view.has_spread ≡ false
  has_not_spread may =
      first_false host.view.has_spread (expects host host.memo.reduce_from host.view.took_reduce)
      (denied _ (and_parts host.view.has_computed _ may).1)

  pub ready_to_spread : is_ready_to_spread host ≡ true → IsReady Spread host.view.host shown_size host.memo.spread_to table
  ready_to_spread may =
      let here = server underway number host at in
      is_ready underway number host at broadcast host.memo.spread_to (long_spreads division host here.is_host here.serves) (knows underway number host at).spread_to
      (λ to.
      ap (λ n. (slice_index_or (map (λ (h : HostState Program Item State Shown). h.view) hosts) n host.view).has_spread) here.of_number
      ∙ ap (λ (view : HostView Program Item State Shown). view.has_spread) (view_at underway number host at host.view)
      ∙ has_not_spread may)

  pub spread_turns : is_ready_to_spread host ≡ true → (new : HostState Program Item State Shown) (new_table : Table) → IsTable new_table → IsHost new → StaysItself host new
      → new.view ≡ after_spread host.view new.view.states new.view.next new.view.items new.view.awake_next
      → ((d : Division) (r : ℕ) → Serves d host → IsRun IsItem IsShown IsState (run_of reducer (steps host.view.program) item_size shown_size d) → StandsFor (run_of reducer (steps host.view.program) item_size shown_size d) r host.view
      → SpreadsIn reducer (steps host.view.program) item_size shown_size d r host new shown_bytes table new_table)
      → Turns IsItem IsShown IsState item_bytes shown_bytes (run_of reducer (steps program) item_size shown_size division) program rounds hosts table (slice_set hosts number new) new_table
  spread_turns may new new_table is_table is_host stays becomes serves =
      let here = server underway number host at in
      let does : SpreadsIn reducer (steps program) item_size shown_size division rounds host new shown_bytes table new_table
      = subst (λ p. IsRun IsItem IsShown IsState (run_by p) → StandsFor (run_by p) rounds host.view → SpreadsIn reducer (steps p) item_size shown_size division rounds host new shown_bytes table new_table)
      here.runs (serves division rounds here.serves) underway.is_run (host_stands underway number host at) in
      post_turns underway number host at broadcast host.memo.spread_to (knows underway number host at).spread_to new new_table is_table does.posts does.becomes
      (λ spare. and_from (nat_lt number division.hosts) (may_spread division (slice_index_or (map (λ (h : HostState Program Item State Shown). h.view) hosts) number spare))
      (lt-ltb number division.hosts (number_within underway number host at))
      (ap (may_spread division) (view_at underway number host at spare) ∙ sym (knows underway number host at).ready_to_spread ∙ may))
      stays is_host (ap (λ (view : HostView Program Item State Shown). view.host) becomes) (ap (λ (view : HostView Program Item State Shown). view.program) becomes)
