-- Where items are kept, what a mirror keeps is no news to its vertex.
use Rattle.std.proofs.Common.{◌≡◌, ℕ, zero, suc, ◌+◌, ◌<◌, ◌≤◌, true, false, Bool, cond, refl, sym, ◌∙◌, ap, arith, inl, inr}
use Rattle.std.specs.List.{range_with_len}
use Rattle.std.proofs.lemmas.Bool.{cases_Bool, both_ways}
use Rattle.reduce_laws.specs.ReductionLaws.{combined}
use Rattle.lone_rounds.specs.Moments.{brought}
use Rattle.reduce_laws.proofs.Combining.{each, combined_identities}
use Rattle.round_packets.proofs.Turns.{combined_has, range_is_value}
use Rattle.lone_rounds.proofs.Rounds.{brought_is_value}
use Rattle.graph_division.specs.Division.{hosts_of, whole}
use Rattle.round_packets.specs.Runs.{Run, IsRun, moment_of, state_of, shows, contribution}
use Rattle.round_packets.specs.Packets.{carries}
use Rattle.round_packets.specs.RunPackets.{broadcast_packet, kept, gathered}
use Rattle.round_packets.specs.Laws.{KeptIsNoNews}
use Rattle.round_packets.proofs.Shares.{state_is, shows_value, whole_within, contribution_is_value, brought_by_hosts}

-- what holds of either choice holds of what is chosen
choice : {X : Type 0} (P : X → Type 0) (b : Bool) (x y : X) → (b ≡ true → P x) → (b ≡ false → P y) → P (cond b x y)
choice P true x y hx hy = hx refl
choice P false x y hx hy = hy refl

module _ {Item State Shown : Type 0} {IsItem : Item → Type 0} {IsShown : Shown → Type 0} {IsState : State → Type 0} (run : Run Item State Shown) (fact : IsRun IsItem IsShown IsState run) where
  -- a mirror keeps a value
  pub kept_is_value : (rounds host v : ℕ) → v < run.division.nodes → IsItem (kept run rounds host v)
  unfolding kept
  kept_is_value zero host v below = fact.program.keep_is_value (shows run 0 v) (shows_value run fact 0 v below)
  kept_is_value (suc rounds) host v below =
      choice IsItem run.reducer.keeps _ _
      (λ _. choice IsItem (carries run.shown_size (broadcast_packet run rounds (run.division.master v) host) v) _ _
      (λ _. fact.program.keep_is_value (shows run (suc rounds) v) (shows_value run fact (suc rounds) v below))
      (λ _. fact.reduction.combine_is_value (kept run rounds host v) (contribution run rounds host v) (kept_is_value rounds host v below) (contribution_is_value run fact rounds host v)))
      (λ _. fact.reduction.identity_is_value)

  pub gathered_is_value : (rounds host v : ℕ) → v < run.division.nodes → IsItem (gathered run rounds host v)
  gathered_is_value rounds host v below =
      fact.reduction.combine_is_value (kept run rounds host v) (contribution run rounds host v) (kept_is_value rounds host v below) (contribution_is_value run fact rounds host v)

  -- where items are not kept, nothing is
  pub kept_is_identity : run.reducer.keeps ≡ false → (rounds host v : ℕ) → v < run.division.nodes → kept run rounds host v ≡ run.reducer.identity
  unfolding kept
  kept_is_identity resets zero host v below = fact.program.keep_is_identity resets (shows run 0 v) (shows_value run fact 0 v below)
  kept_is_identity resets (suc rounds) host v below = rw resets refl

  module _ (keeps : run.reducer.keeps ≡ true) where
    -- what was no news is none after a round
    no_news_later : (s : State) (g x : Item) → IsState s → IsItem g → IsItem x → run.steps.settle s x ≡ s → run.steps.settle (run.steps.settle s g) x ≡ run.steps.settle s g
    no_news_later s g x hs hg hx none =
        fact.program.settle-settle keeps s g x hs hg hx ∙ ap (run.steps.settle s) (fact.reduction.combine_comm g x hg hx)
        ∙ sym (fact.program.settle-settle keeps s x g hs hx hg) ∙ ap (λ t. run.steps.settle t g) none

    -- what a round had in it is no news after it
    no_news_again : (s : State) (g x : Item) → IsState s → IsItem g → IsItem x → run.reducer.combine g x ≡ g → run.steps.settle (run.steps.settle s g) x ≡ run.steps.settle s g
    no_news_again s g x hs hg hx has = fact.program.settle-settle keeps s g x hs hg hx ∙ ap (run.steps.settle s) has

    -- two items that are no news are none together
    no_news_both : (s : State) (x y : Item) → IsState s → IsItem x → IsItem y → run.steps.settle s x ≡ s → run.steps.settle s y ≡ s → run.steps.settle s (run.reducer.combine x y) ≡ s
    no_news_both s x y hs hx hy first second =
        sym (fact.program.settle-settle keeps s x y hs hx hy) ∙ ap (λ t. run.steps.settle t y) first ∙ second

    -- a host's contribution to a round is in what the whole graph brings
    whole_has : (rounds host v : ℕ) → host < run.division.hosts → run.reducer.combine (brought run.reducer run.steps (whole run.division) (moment_of run rounds) v) (contribution run rounds host v) ≡ brought run.reducer run.steps (whole run.division) (moment_of run rounds) v
    whole_has rounds host v there =
        let by_hosts = brought_by_hosts run fact rounds v (hosts_of run.division) in
        ap (λ x. run.reducer.combine x (contribution run rounds host v)) by_hosts
        ∙ combined_has fact.reduction (λ h. contribution run rounds h v) (λ h. contribution_is_value run fact rounds h v) keeps 0 run.division.hosts host (omega arith) (omega arith)
        ∙ sym by_hosts

    pub no_news : (rounds host v : ℕ) → host < run.division.hosts → v < run.division.nodes → run.steps.settle (state_of run rounds v) (kept run rounds host v) ≡ state_of run rounds v
    unfolding kept
    no_news zero host v there below = fact.program.settle-keep keeps (state_of run 0 v) (state_is run fact 0 v below)
    no_news (suc rounds) host v there below =
        let P : Item → Type 0 = λ x. run.steps.settle (state_of run (suc rounds) v) x ≡ state_of run (suc rounds) v in
        let s = state_of run rounds v in
        let g = brought run.reducer run.steps (whole run.division) (moment_of run rounds) v in
        let k = kept run rounds host v in
        let c = contribution run rounds host v in
        let hs : IsState s = state_is run fact rounds v below in
        let hg : IsItem g = brought_is_value fact.reduction fact.program run.division.nodes (whole run.division) (moment_of run rounds) (whole_within run fact).within (state_is run fact rounds) v in
        let hk : IsItem k = kept_is_value rounds host v below in
        let hc : IsItem c = contribution_is_value run fact rounds host v in
        choice P run.reducer.keeps _ _
        (λ _. choice P (carries run.shown_size (broadcast_packet run rounds (run.division.master v) host) v) _ _
        (λ _. fact.program.settle-keep keeps (state_of run (suc rounds) v) (state_is run fact (suc rounds) v below))
        (λ _. no_news_both (state_of run (suc rounds) v) k c (state_is run fact (suc rounds) v below) hk hc
        (no_news_later s g k hs hg hk (no_news rounds host v there below))
        (no_news_again s g c hs hg hc (whole_has rounds host v there))))
        (λ resets. absurd (both_ways run.reducer.keeps resets keeps))

    -- nor is all that mirrors on some hosts keep
    no_news_from_all : (rounds v first count : ℕ) → first + count ≤ run.division.hosts → v < run.division.nodes → run.steps.settle (state_of run rounds v) (combined run.reducer (λ host. kept run rounds host v) (range_with_len first count)) ≡ state_of run rounds v
    no_news_from_all rounds v first zero within below = fact.program.settle-identity keeps (state_of run rounds v) (state_is run fact rounds v below)
    no_news_from_all rounds v first (suc count) within below =
        no_news_both (state_of run rounds v) (kept run rounds first v) (combined run.reducer (λ host. kept run rounds host v) (range_with_len (first + 1) count))
        (state_is run fact rounds v below) (kept_is_value rounds first v below)
        (range_is_value fact.reduction (λ host. kept run rounds host v) (λ host. kept_is_value rounds host v below) (first + 1) count)
        (no_news rounds first v (omega arith) below) (no_news_from_all rounds v (first + 1) count (omega arith) below)

  -- what all mirrors of a vertex keep makes no difference to what it is given besides
  pub kept_by_all : (rounds v : ℕ) (x : Item) → IsItem x → v < run.division.nodes → run.steps.settle (state_of run rounds v) (run.reducer.combine (combined run.reducer (λ host. kept run rounds host v) (hosts_of run.division)) x) ≡ run.steps.settle (state_of run rounds v) x
  kept_by_all rounds v x hx below =
      let all = combined run.reducer (λ host. kept run rounds host v) (hosts_of run.division) in
      let hall : IsItem all = range_is_value fact.reduction (λ host. kept run rounds host v) (λ host. kept_is_value rounds host v below) 0 run.division.hosts in
      elim (cases_Bool run.reducer.keeps) [
        | inl keeps ↦ sym (fact.program.settle-settle keeps (state_of run rounds v) all x (state_is run fact rounds v below) hall hx)
            ∙ ap (λ s. run.steps.settle s x) (no_news_from_all keeps rounds v 0 run.division.hosts (omega arith) below)
        | inr resets ↦ ap (run.steps.settle (state_of run rounds v))
            (ap (λ y. run.reducer.combine y x) (combined_identities fact.reduction (λ host. kept run rounds host v) (hosts_of run.division)
            (each (λ host. kept run rounds host v ≡ run.reducer.identity) (λ host. kept_is_identity resets rounds host v below) (hosts_of run.division)))
            ∙ fact.reduction.combine-identity x hx)
      ]

pub kept_is_no_news : {Item State Shown : Type 0} (IsItem : Item → Type 0) (IsShown : Shown → Type 0) (IsState : State → Type 0) → KeptIsNoNews IsItem IsShown IsState
kept_is_no_news IsItem IsShown IsState run rounds host v fact keeps there below = no_news run fact keeps rounds host v there below
