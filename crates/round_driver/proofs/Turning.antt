-- Events that come in turn, until the round is over.
use Rattle.std.proofs.Common.{◌≡◌, ℕ, suc, ◌+◌, ◌*◌, ◌<◌, ◌≤◌, Bool, not, List, ◌++◌, length, map, refl, sym, ap, subst, ◌∙◌, arith, inl, inr, length-append}
use Rattle.std.specs.List.{filter, count_by, range_with_len}
use Rattle.std.proofs.lemmas.Bool.{cases_lt}
use Rattle.std.proofs.lemmas.List.{length-map, get_or-map}
use Rattle.std.proofs.lemmas.List.FromFn.{fill_by_all}
use Rattle.std.proofs.lemmas.List.Sums.{length-filter}
use Rattle.std.proofs.lemmas.Option.{get_or_from_slice_get}
use Rattle.list_laws.specs.Members.{has_member, count_of}
use Rattle.list_laws.proofs.Members.{count_of-count_by}
use Rattle.list_laws.proofs.Places.{element_at}
use Rattle.packet_table.specs.Table.{Table}
use Rattle.round_packets.specs.Runs.{Run}
use Rattle.host_laws.specs.HostView.{HostView}
use Rattle.host_state.specs.HostState.{HostState}
use Rattle.cluster_laws.specs.Cluster.{ClusterView, StandsBetween, IsOver, enabled, may_spread, yet_to_come}
use Rattle.cluster_laws.specs.Events.{Event}
use Rattle.cluster_laws.specs.Events.Event.{compute, spread, deliver}
use Rattle.cluster_laws.specs.Steps.{Step, StepsInTurn}
use Rattle.cluster_laws.specs.Numbers.{channel_at, who_may_compute, who_may_spread, flying}
use Rattle.cluster_laws.specs.Tally.{packets_of}
use Rattle.cluster_laws.proofs.Counting.{count-map, count_where, range_below}
use Rattle.cluster_laws.proofs.Ending.{steps_keep, end_is_over, nothing_left, over_where_nothing_left}
use Rattle.cluster_laws.proofs.Tables.{enabled_is}
use Rattle.round_driver.specs.Choices.{may_do, who_may, choices}
use Rattle.round_driver.specs.declared.choosing.Doing.TheVariants.{Compute, Spread}
use Rattle.round_driver.specs.Underway.{Underway, table_of, seen_as}
use Rattle.round_driver.proofs.Moving.{fits_run, view_at, knows}

-- one more step
pub one_more_step : {Program Item State Shown : Type 0} (item_bytes : Item → List ℕ) (shown_bytes : Shown → List ℕ) (run : Run Item State Shown) (rounds count : ℕ) (first before last : ClusterView Program Item State Shown) (event : Event)
    → StepsInTurn item_bytes shown_bytes run rounds count first before → Step item_bytes shown_bytes run rounds event before last → StepsInTurn item_bytes shown_bytes run rounds (count + 1) first last
unfolding StepsInTurn
one_more_step item_bytes shown_bytes run rounds count first before last event steps step =
    let next : suc count ≡ count + 1 = omega arith in
    subst (λ n. StepsInTurn item_bytes shown_bytes run rounds n first last) next (before, event, steps, step)

-- numbers that pass as the members of a set do
counted_as : (q : ℕ → Bool) (bits : List Bool) (n : ℕ) → length bits ≡ n → ((k : ℕ) → k < n → q k ≡ has_member bits k) → length (filter q (range_with_len 0 n)) ≡ count_of bits
counted_as q bits n long same =
    length-filter q (range_with_len 0 n)
    ∙ count_where (λ k. k < n) q (has_member bits) (λ k below. same k below) (range_with_len 0 n) (range_below 0 n n (omega arith))
    ∙ sym (count_of-count_by bits ∙ ap (count_by (λ b. b)) (fill_by_all (has_member bits) bits n _ long (λ k within. refl)) ∙ count-map (λ b. b) (has_member bits) (range_with_len 0 n))

module _ {Program Item State Shown : Type 0} {IsItem : Item → Type 0} {IsShown : Shown → Type 0} {IsState : State → Type 0} {item_bytes : Item → List ℕ} {shown_bytes : Shown → List ℕ} {run : Run Item State Shown} {program : Program} {rounds : ℕ} {hosts : List (HostState Program Item State Shown)} {table : Table}
    (underway : Underway IsItem IsShown IsState item_bytes shown_bytes run program rounds hosts table) (spare : HostView Program Item State Shown) where
  computing_are : length (who_may_compute run.division spare (table_of hosts table)) ≡ count_of (who_may Compute hosts)
  computing_are =
      counted_as _ (who_may Compute hosts) run.division.hosts (length-map hosts (may_do Compute) ∙ underway.servers.as_many)
      (λ k within.
      let host = element_at hosts k (let many = underway.servers.as_many in omega arith) in
      ap (λ (view : HostView Program Item State Shown). not view.has_computed) (view_at underway k host.0 host.1 spare)
      ∙ sym (get_or-map (may_do Compute) hosts k host.0 _ (let many = underway.servers.as_many in omega arith) ∙ ap (may_do Compute) (get_or_from_slice_get hosts k host.0 host.0 host.1)))

  spreading_are : length (who_may_spread run.division spare (table_of hosts table)) ≡ count_of (who_may Spread hosts)
  spreading_are =
      counted_as _ (who_may Spread hosts) run.division.hosts (length-map hosts (may_do Spread) ∙ underway.servers.as_many)
      (λ k within.
      let host = element_at hosts k (let many = underway.servers.as_many in omega arith) in
      ap (may_spread run.division) (view_at underway k host.0 host.1 spare)
      ∙ sym (knows underway k host.0 host.1).ready_to_spread
      ∙ sym (get_or-map (may_do Spread) hosts k host.0 _ (let many = underway.servers.as_many in omega arith) ∙ ap (may_do Spread) (get_or_from_slice_get hosts k host.0 host.0 host.1)))

  flying_are : length (flying (table_of hosts table)) ≡ count_of table.flying
  flying_are = counted_as (has_member table.flying) table.flying (length table.flying) refl (λ k within. refl)

  choices_are : length (enabled run.division (seen_as run.division spare hosts table)) ≡ choices hosts table
  choices_are =
      let computes = map compute (who_may_compute run.division spare (table_of hosts table)) in
      let spreads = map spread (who_may_spread run.division spare (table_of hosts table)) in
      let delivers = map (λ number. deliver (channel_at run.division number)) (flying (table_of hosts table)) in
      ap (λ (l : List Event). length l) (enabled_is run.division spare (table_of hosts table) (fits_run underway))
      ∙ length-append computes (spreads ++ delivers)
      ∙ ap (λ n. length computes + n) (length-append spreads delivers)
      ∙ ap (λ n. n + (length spreads + length delivers)) (length-map (who_may_compute run.division spare (table_of hosts table)) compute ∙ computing_are)
      ∙ ap (λ n. count_of (who_may Compute hosts) + (n + length delivers)) (length-map (who_may_spread run.division spare (table_of hosts table)) spread ∙ spreading_are)
      ∙ ap (λ n. count_of (who_may Compute hosts) + (count_of (who_may Spread hosts) + n)) (length-map (flying (table_of hosts table)) (λ number. deliver (channel_at run.division number)) ∙ flying_are)

  module _ (first : ClusterView Program Item State Shown) (between : StandsBetween item_bytes shown_bytes run rounds first) (count : ℕ) (steps : StepsInTurn item_bytes shown_bytes run rounds count first (seen_as run.division spare hosts table)) where
    -- as long as events are yet to come there is a choice
    pub some_choice : count < 2 * run.division.hosts + packets_of run.division → 1 ≤ choices hosts table
    some_choice early =
        elim (cases_lt 0 (choices hosts table)) [
          | inl some ↦ omega arith
          | inr none ↦
              let cluster = seen_as run.division spare hosts table in
              let kept = steps_keep run underway.is_run rounds first between count cluster steps in
              let left = kept.1 in
              let over : IsOver run.division cluster = end_is_over run underway.is_run rounds cluster kept.0 (choices_are ∙ none_at_all (choices hosts table) none) in
              let nothing = nothing_left run underway.is_run rounds cluster kept.0 over in
              absurd (omega arith)
        ]
      where
        none_at_all : (n : ℕ) → n ≤ 0 → n ≡ 0
        none_at_all n none = omega arith

    -- and the round is over once all have come
    pub is_over : count ≡ 2 * run.division.hosts + packets_of run.division → IsOver run.division (seen_as run.division spare hosts table)
    is_over all =
        let cluster = seen_as run.division spare hosts table in
        let kept = steps_keep run underway.is_run rounds first between count cluster steps in
        over_where_nothing_left run underway.is_run rounds cluster kept.0 (nothing count (yet_to_come run.division cluster) _ kept.1 all)
      where
        nothing : (n left total : ℕ) → n + left ≡ total → n ≡ total → left ≡ 0
        nothing n left total sum all_come = omega arith
