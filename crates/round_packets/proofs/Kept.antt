-- What a mirror keeps after a round, case by case.
use Rattle.std.proofs.Common.{◌≡◌, ℕ, suc, ◌<◌, true, false, Bool, cond, not, ◌&&◌, ◌||◌, ◌==◌, refl, ◌∙◌, ap, arith}
use Rattle.round_packets.specs.Runs.{Run, shows}
use Rattle.graph_division.specs.Lists.{is_readable, is_mirror}
use Rattle.round_packets.specs.Packets.{tag_of, carries}
use Rattle.round_packets.specs.RunPackets.{broadcast_packet, kept, gathered}
use Rattle.graph_division.proofs.Listed.{picked}

module _ {Item State Shown : Type 0} (run : Run Item State Shown) where
  -- told: what the news says
  pub kept_told : run.reducer.keeps ≡ true → (rounds host v : ℕ) → carries run.shown_size (broadcast_packet run rounds (run.division.master v) host) v ≡ true → kept run (suc rounds) host v ≡ run.steps.keep (shows run (suc rounds) v)
  unfolding kept
  kept_told keeps rounds host v told = ap (λ b. cond b (cond (carries run.shown_size (broadcast_packet run rounds (run.division.master v) host) v) (run.steps.keep (shows run (suc rounds) v)) (gathered run rounds host v)) run.reducer.identity) keeps ∙ ap (λ b. cond b (run.steps.keep (shows run (suc rounds) v)) (gathered run rounds host v)) told

  -- not told: what it gathered
  pub kept_untold : run.reducer.keeps ≡ true → (rounds host v : ℕ) → carries run.shown_size (broadcast_packet run rounds (run.division.master v) host) v ≡ false → kept run (suc rounds) host v ≡ gathered run rounds host v
  unfolding kept
  kept_untold keeps rounds host v untold = ap (λ b. cond b (cond (carries run.shown_size (broadcast_packet run rounds (run.division.master v) host) v) (run.steps.keep (shows run (suc rounds) v)) (gathered run rounds host v)) run.reducer.identity) keeps ∙ ap (λ b. cond b (run.steps.keep (shows run (suc rounds) v)) (gathered run rounds host v)) untold

  -- a vertex that is not read is not told of
  pub unread_is_untold : (rounds host v : ℕ) → v < run.division.nodes → is_readable run.division host v ≡ false → carries run.shown_size (broadcast_packet run rounds (run.division.master v) host) v ≡ false
  unread_is_untold rounds host v below unread =
      ap (λ b. b && (tag_of run.shown_size (broadcast_packet run rounds (run.division.master v) host) == 0 || not (run.steps.same (shows run rounds v) (shows run (suc rounds) v))))
      (picked (λ u. run.division.master u == run.division.master v && (is_mirror run.division host u && is_readable run.division host u)) 0 run.division.nodes v (omega arith) (omega arith)
      ∙ last (run.division.master v == run.division.master v) (is_mirror run.division host v) unread)
    where
      last : (a b : Bool) → {c : Bool} → c ≡ false → (a && (b && c)) ≡ false
      last true true h = h
      last true false h = refl
      last false b h = refl
