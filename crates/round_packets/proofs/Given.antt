-- What a master is given settles it as the round of the whole graph does.
use Rattle.std.proofs.Common.{◌≡◌, ◌≢◌, ℕ, suc, ◌<◌, true, false, Bool, cond, not, ◌&&◌, ◌||◌, ◌==◌, refl, sym, ◌∙◌, ap, arith, inl, inr}
use Rattle.std.specs.List.{list_any}
use Rattle.std.proofs.lemmas.Bool.{cases_Bool, and_cases, eq-eqb, ne_eqb}
use Rattle.std.proofs.lemmas.Bool.Decides.{eqb_tells}
use Rattle.reduce_laws.specs.ReductionLaws.{combined}
use Rattle.lone_rounds.specs.Moments.{brought, carried_along}
use Rattle.reduce_laws.proofs.Combining.{each, combine_identity, combined_both, combined_same, combined-filter}
use Rattle.round_packets.proofs.Turns.{range_is_value, at_turn, at_turn_is_value, takes_turn}
use Rattle.graph_division.specs.Division.{hosts_of}
use Rattle.round_packets.specs.Runs.{Run, IsRun, moment_of, state_of, contribution}
use Rattle.graph_division.specs.Lists.{is_readable, is_writable, is_mirror, reduce_list}
use Rattle.round_packets.specs.Packets.{tag_of, carries}
use Rattle.round_packets.specs.RunPackets.{reduce_packet, kept, gathered, given}
use Rattle.round_packets.specs.Laws.{GivenSettles}
use Rattle.graph_division.proofs.Listed.{picked, neither, not_written, second_fails, denied}
use Rattle.round_packets.proofs.Shares.{contribution_is_value, settles_by_hosts}
use Rattle.round_packets.proofs.Absorbing.{kept_is_value, gathered_is_value, kept_is_identity, kept_by_all}

module _ {Item State Shown : Type 0} {IsItem : Item → Type 0} {IsShown : Shown → Type 0} {IsState : State → Type 0} (run : Run Item State Shown) (fact : IsRun IsItem IsShown IsState run) where
  -- a host whose arcs do not lead to a vertex contributes nothing to it
  unwritten : (rounds host v : ℕ) → is_writable run.division host v ≡ false → contribution run rounds host v ≡ run.reducer.identity
  unfolding brought
  unwritten rounds host v none =
      ap (combined run.reducer (carried_along run.steps (moment_of run rounds)))
      (neither (λ arc. arc.head == v) (λ arc. (moment_of run rounds).awake arc.tail) (run.division.share host) none)

  -- whether the reduce list of a host to a vertex's master has it
  listed : (host v : ℕ) → v < run.division.nodes → list_any (λ id. id == v) (reduce_list run.division host (run.division.master v)) ≡ (run.division.master v == run.division.master v && (is_mirror run.division host v && is_writable run.division host v))
  listed host v below = picked (λ u. run.division.master u == run.division.master v && (is_mirror run.division host u && is_writable run.division host u)) 0 run.division.nodes v (omega arith) (omega arith)

  -- no vertex stands in a list of its master's own host
  not_at_home : (v : ℕ) → v < run.division.nodes → list_any (λ id. id == v) (reduce_list run.division (run.division.master v) (run.division.master v)) ≡ false
  not_at_home v below = listed (run.division.master v) v below ∙ step (run.division.master v == run.division.master v) (eq-eqb (run.division.master v) (run.division.master v) refl)
    where
      step : (b : Bool) → b ≡ true → (b && (not b && (is_readable run.division (run.division.master v) v || is_writable run.division (run.division.master v) v) && is_writable run.division (run.division.master v) v)) ≡ false
      step true h = refl
      step false h = refl

  -- a mirror that is not listed is not written
  unlisted : (host v : ℕ) → v < run.division.nodes → host ≢ run.division.master v → list_any (λ id. id == v) (reduce_list run.division host (run.division.master v)) ≡ false → is_writable run.division host v ≡ false
  unlisted host v below apart none =
      not_written (is_readable run.division host v) (is_writable run.division host v)
      (step (run.division.master v == run.division.master v) (run.division.master v == host) (eq-eqb (run.division.master v) (run.division.master v) refl) (ne_eqb (run.division.master v) host (λ same. apart (sym same))) (sym (listed host v below) ∙ none))
    where
      step : (b c : Bool) → b ≡ true → c ≡ false → (b && (not c && (is_readable run.division host v || is_writable run.division host v) && is_writable run.division host v)) ≡ false → ((is_readable run.division host v || is_writable run.division host v) && is_writable run.division host v) ≡ false
      step true true hb hc h = absurd (cc)
      step true false hb hc h = h
      step false c hb hc h = absurd (cc)

  -- whether a host's reduce packet to a vertex's master carries it
  is_sent : (rounds v host : ℕ) → Bool
  is_sent rounds v host = carries run.item_size (reduce_packet run rounds host (run.division.master v)) v

  -- a mirror that is not carried has gathered nothing new
  nothing_new : (rounds v host : ℕ) → v < run.division.nodes → host ≢ run.division.master v → is_sent rounds v host ≡ false → gathered run rounds host v ≡ kept run rounds host v
  unfolding is_sent
  nothing_new rounds v host below apart not_sent =
      elim (and_cases (list_any (λ id. id == v) (reduce_list run.division host (run.division.master v))) (tag_of run.item_size (reduce_packet run rounds host (run.division.master v)) == 0 || not (run.reducer.same (gathered run rounds host v) (kept run rounds host v))) not_sent) [
        | inl none ↦ ap (run.reducer.combine (kept run rounds host v)) (unwritten rounds host v (unlisted host v below apart none))
            ∙ combine_identity fact.reduction (kept run rounds host v) (kept_is_value run fact rounds host v below)
        | inr quiet ↦ (fact.reduction.same_tells (gathered run rounds host v) (kept run rounds host v) (gathered_is_value run fact rounds host v below) (kept_is_value run fact rounds host v below)).0
            (denied (run.reducer.same (gathered run rounds host v) (kept run rounds host v)) (second_fails (tag_of run.item_size (reduce_packet run rounds host (run.division.master v)) == 0) _ quiet))
      ]

  -- what a mirror keeps may be combined twice
  kept_twice : (rounds host v : ℕ) → v < run.division.nodes → run.reducer.combine (kept run rounds host v) (kept run rounds host v) ≡ kept run rounds host v
  kept_twice rounds host v below =
      elim (cases_Bool run.reducer.keeps) [
        | inl keeps ↦ fact.reduction.combine_itself keeps (kept run rounds host v) (kept_is_value run fact rounds host v below)
        | inr resets ↦ ap (λ x. run.reducer.combine x (kept run rounds host v)) (kept_is_identity run fact resets rounds host v below)
            ∙ fact.reduction.combine-identity (kept run rounds host v) (kept_is_value run fact rounds host v below)
      ]

  -- what a host sends for a vertex, or nothing
  sent_by : (rounds v host : ℕ) → Item
  sent_by rounds v host = cond (is_sent rounds v host) (gathered run rounds host v) run.reducer.identity

  sent_is_value : (rounds v host : ℕ) → v < run.division.nodes → IsItem (sent_by rounds v host)
  unfolding sent_by
  sent_is_value rounds v host below = step (is_sent rounds v host)
    where
      step : (b : Bool) → IsItem (cond b (gathered run rounds host v) run.reducer.identity)
      step true = gathered_is_value run fact rounds host v below
      step false = fact.reduction.identity_is_value

  -- a vertex's own host sends nothing
  home_sends_nothing : (rounds v : ℕ) → v < run.division.nodes → sent_by rounds v (run.division.master v) ≡ run.reducer.identity
  unfolding sent_by is_sent
  home_sends_nothing rounds v below =
      ap (λ b. cond (b && (tag_of run.item_size (reduce_packet run rounds (run.division.master v) (run.division.master v)) == 0 || not (run.reducer.same (gathered run rounds (run.division.master v) v) (kept run rounds (run.division.master v) v)))) (gathered run rounds (run.division.master v) v) run.reducer.identity)
      (not_at_home v below)

  -- what stands for each host: at the vertex's own its contribution, at another what it sends
  stand_in : (rounds v : ℕ) → v < run.division.nodes → ℕ → Item
  stand_in rounds v below =
      at_turn fact.reduction (λ host. contribution run rounds host v) (λ host. contribution_is_value run fact rounds host v)
      (sent_by rounds v) (λ host. sent_is_value rounds v host below) (run.division.master v) (home_sends_nothing rounds v below)

  stand_in_is_value : (rounds v : ℕ) (below : v < run.division.nodes) (host : ℕ) → IsItem (stand_in rounds v below host)
  unfolding stand_in
  stand_in_is_value rounds v below =
      at_turn_is_value fact.reduction (λ host. contribution run rounds host v) (λ host. contribution_is_value run fact rounds host v)
      (sent_by rounds v) (λ host. sent_is_value rounds v host below) (run.division.master v) (home_sends_nothing rounds v below)

  -- beside what a mirror keeps, it is as good as the host's contribution
  as_good : (rounds v : ℕ) (below : v < run.division.nodes) (host : ℕ) → run.reducer.combine (kept run rounds host v) (stand_in rounds v below host) ≡ gathered run rounds host v
  unfolding stand_in at_turn sent_by
  as_good rounds v below host =
      let k = kept run rounds host v in
      let hk : IsItem k = kept_is_value run fact rounds host v below in
      elim (eqb_tells host (run.division.master v)) [
        | inl home ↦ ap (λ b. run.reducer.combine k (cond b (contribution run rounds (run.division.master v) v) (sent_by rounds v host))) home.0
            ∙ ap (λ h. run.reducer.combine k (contribution run rounds h v)) (sym home.1)
        | inr away ↦ ap (λ b. run.reducer.combine k (cond b (contribution run rounds (run.division.master v) v) (sent_by rounds v host))) away.0
            ∙ (elim (cases_Bool (is_sent rounds v host)) [
              | inl goes ↦ ap (λ b. run.reducer.combine k (cond b (gathered run rounds host v) run.reducer.identity)) goes
                  ∙ sym (fact.reduction.combine_assoc k k (contribution run rounds host v) hk hk (contribution_is_value run fact rounds host v))
                  ∙ ap (λ x. run.reducer.combine x (contribution run rounds host v)) (kept_twice rounds host v below)
              | inr stays ↦ ap (λ b. run.reducer.combine k (cond b (gathered run rounds host v) run.reducer.identity)) stays
                  ∙ combine_identity fact.reduction k hk
                  ∙ sym (nothing_new rounds v host below away.1 stays)
            ])
      ]

  -- what a master is given is what stands for each host
  given_by_hosts : (rounds v : ℕ) (below : v < run.division.nodes) → given run rounds v ≡ combined run.reducer (stand_in rounds v below) (hosts_of run.division)
  unfolding stand_in sent_by is_sent
  given_by_hosts rounds v below =
      ap (run.reducer.combine (contribution run rounds (run.division.master v) v))
      (combined-filter fact.reduction (λ host. gathered run rounds host v) (is_sent rounds v) (hosts_of run.division) (each (λ host. IsItem (gathered run rounds host v)) (λ host. gathered_is_value run fact rounds host v below) (hosts_of run.division)))
      ∙ takes_turn fact.reduction (λ host. contribution run rounds host v) (λ host. contribution_is_value run fact rounds host v)
      (sent_by rounds v) (λ host. sent_is_value rounds v host below) (run.division.master v) (home_sends_nothing rounds v below)
      0 run.division.hosts (omega arith) (let there = fact.divided.mastered v below in omega arith)

  -- beside what all mirrors keep, it comes to what all hosts contribute
  as_good_together : (rounds v : ℕ) (below : v < run.division.nodes) →
      run.reducer.combine (combined run.reducer (λ host. kept run rounds host v) (hosts_of run.division)) (combined run.reducer (stand_in rounds v below) (hosts_of run.division))
      ≡ run.reducer.combine (combined run.reducer (λ host. kept run rounds host v) (hosts_of run.division)) (combined run.reducer (λ host. contribution run rounds host v) (hosts_of run.division))
  as_good_together rounds v below =
      sym (combined_both fact.reduction (λ host. kept run rounds host v) (stand_in rounds v below) (hosts_of run.division)
      (each (λ host. IsItem (kept run rounds host v)) (λ host. kept_is_value run fact rounds host v below) (hosts_of run.division))
      (each (λ host. IsItem (stand_in rounds v below host)) (stand_in_is_value rounds v below) (hosts_of run.division)))
      ∙ combined_same fact.reduction (λ host. run.reducer.combine (kept run rounds host v) (stand_in rounds v below host)) (λ host. gathered run rounds host v) (hosts_of run.division)
      (each (λ host. run.reducer.combine (kept run rounds host v) (stand_in rounds v below host) ≡ gathered run rounds host v) (as_good rounds v below) (hosts_of run.division))
      ∙ combined_both fact.reduction (λ host. kept run rounds host v) (λ host. contribution run rounds host v) (hosts_of run.division)
      (each (λ host. IsItem (kept run rounds host v)) (λ host. kept_is_value run fact rounds host v below) (hosts_of run.division))
      (each (λ host. IsItem (contribution run rounds host v)) (λ host. contribution_is_value run fact rounds host v) (hosts_of run.division))

  pub settles_as_whole : (rounds v : ℕ) → v < run.division.nodes → run.steps.settle (state_of run rounds v) (given run rounds v) ≡ state_of run (suc rounds) v
  settles_as_whole rounds v below =
      ap (run.steps.settle (state_of run rounds v)) (given_by_hosts rounds v below)
      ∙ sym (kept_by_all run fact rounds v (combined run.reducer (stand_in rounds v below) (hosts_of run.division)) (range_is_value fact.reduction (stand_in rounds v below) (stand_in_is_value rounds v below) 0 run.division.hosts) below)
      ∙ ap (run.steps.settle (state_of run rounds v)) (as_good_together rounds v below)
      ∙ kept_by_all run fact rounds v (combined run.reducer (λ host. contribution run rounds host v) (hosts_of run.division)) (range_is_value fact.reduction (λ host. contribution run rounds host v) (λ host. contribution_is_value run fact rounds host v) 0 run.division.hosts) below
      ∙ sym (settles_by_hosts run fact rounds v)

pub given_settles : {Item State Shown : Type 0} (IsItem : Item → Type 0) (IsShown : Shown → Type 0) (IsState : State → Type 0) → GivenSettles IsItem IsShown IsState
given_settles IsItem IsShown IsState run rounds v fact below = settles_as_whole run fact rounds v below
