-- What each host's arcs contribute, and what they come to.
use Rattle.std.proofs.Common.{◌≡◌, ℕ, suc, ◌<◌, List, [], ◌∷◌, refl, ◌∙◌, ap}
use Rattle.std.specs.List.{All, flat_map}
use Rattle.std.proofs.lemmas.List.Elements.{All-nil, All-append}
use Rattle.reduce_laws.specs.ReductionLaws.{combined}
use Rattle.lone_rounds.specs.Moments.{brought}
use Rattle.graph_division.specs.ProgramArcs.{IsArcOf, AreArcsOf}
use Rattle.lone_rounds.proofs.Rounds.{HasStates, brought_is_value, states_after, brought-append}
use Rattle.graph_division.specs.Division.{hosts_of, whole}
use Rattle.round_packets.specs.Runs.{Run, IsRun, moment_of, state_of, shows, contribution}

-- what holds of the elements of each part holds of those of all parts
All-flat_map : {X Y : Type 0} (P : Y → Type 0) (f : X → List Y) → ((x : X) → All P (f x)) → (xs : List X) → All P (flat_map f xs)
All-flat_map P f h [] = All-nil P
All-flat_map P f h (x ∷ xs) = All-append P (f x) (flat_map f xs) (h x) (All-flat_map P f h xs)

module _ {Item State Shown : Type 0} {IsItem : Item → Type 0} {IsShown : Shown → Type 0} {IsState : State → Type 0} (run : Run Item State Shown) (fact : IsRun IsItem IsShown IsState run) where
  -- the whole graph's arcs are arcs of its nodes
  pub whole_within : AreArcsOf run.division.nodes (whole run.division)
  whole_within = record { few = fact.divided.few; within = All-flat_map (IsArcOf run.division.nodes) run.division.share fact.divided.within (hosts_of run.division) }

  pub state_is : (rounds : ℕ) → HasStates IsState run.division.nodes (moment_of run rounds)
  state_is rounds = states_after fact.reduction fact.program run.division.nodes (whole run.division) whole_within rounds

  pub shows_value : (rounds v : ℕ) → v < run.division.nodes → IsShown (shows run rounds v)
  shows_value rounds v below = fact.program.shown_is_value (state_of run rounds v) (state_is rounds v below)

  pub contribution_is_value : (rounds host v : ℕ) → IsItem (contribution run rounds host v)
  contribution_is_value rounds host v =
      brought_is_value fact.reduction fact.program run.division.nodes (run.division.share host) (moment_of run rounds) (fact.divided.within host) (state_is rounds) v

  -- the arcs of some hosts bring what each host's arcs bring, combined
  pub brought_by_hosts : (rounds v : ℕ) (hosts : List ℕ) → brought run.reducer run.steps (flat_map run.division.share hosts) (moment_of run rounds) v ≡ combined run.reducer (λ host. contribution run rounds host v) hosts
  unfolding brought
  brought_by_hosts rounds v [] = refl
  brought_by_hosts rounds v (host ∷ hosts) =
      brought-append fact.reduction fact.program run.division.nodes (run.division.share host) (flat_map run.division.share hosts) (moment_of run rounds)
      (fact.divided.within host) (All-flat_map (IsArcOf run.division.nodes) run.division.share fact.divided.within hosts) (state_is rounds) v
      ∙ ap (run.reducer.combine (contribution run rounds host v)) (brought_by_hosts rounds v hosts)

  -- so a round of the whole graph settles a vertex with what all hosts contribute
  pub settles_by_hosts : (rounds v : ℕ) → state_of run (suc rounds) v ≡ run.steps.settle (state_of run rounds v) (combined run.reducer (λ host. contribution run rounds host v) (hosts_of run.division))
  settles_by_hosts rounds v = ap (run.steps.settle (state_of run rounds v)) (brought_by_hosts rounds v (hosts_of run.division))
