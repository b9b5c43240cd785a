-- A host on which all is done stands for the moment after the round once it is closed.
use Rattle.std.proofs.Common.{◌≡◌, ℕ, zero, suc, ◌<◌, ◌≤◌, true, false, Bool, cond, not, ◌&&◌, ◌||◌, ◌==◌, nat_lt, List, [], ◌∷◌, length, get_or, replicate, refl, sym, ◌∙◌, ap, inl, inr, arith}
use Rattle.std.specs.List.{filter}
use Rattle.std.proofs.lemmas.Bool.{cases_Bool, both_ways}
use Rattle.std.proofs.lemmas.Bool.Decides.{nat_tests}
use Rattle.std.proofs.lemmas.List.{length-replicate}
use Rattle.reduce_laws.specs.ReductionLaws.{combined}
use Rattle.round_packets.specs.Runs.{Run, IsRun, state_of, shows}
use Rattle.graph_division.specs.Division.{hosts_of}
use Rattle.graph_division.specs.Lists.{is_readable}
use Rattle.round_packets.specs.Packets.{carries}
use Rattle.round_packets.specs.RunPackets.{reduce_packet, kept, gathered}
use Rattle.round_packets.proofs.Shares.{shows_value}
use Rattle.round_packets.proofs.Kept.{kept_untold, unread_is_untold}
use Rattle.host_laws.specs.HostView.{HostView, vertex}
use Rattle.host_laws.specs.Standing.{StandsFor, IsDone, is_lit, was_told, sum_so_far, kept_so_far, shows_next}
use Rattle.host_laws.specs.Effects.{closed}

-- a list of falsehoods has no truth in it
pub all_false : (n k : ℕ) → get_or (replicate n false) k false ≡ false
all_false zero k = refl
all_false (suc n) zero = refl
all_false (suc n) (suc k) = all_false n k

-- nothing passes a test that nothing passes
pub filter_all : {X : Type 0} (p : X → Bool) → ((x : X) → p x ≡ false) → (xs : List X) → filter p xs ≡ []
filter_all p h [] = refl
filter_all p h (x ∷ xs) = rw (h x) (filter_all p h xs)

pub not_both : (a b : Bool) → a ≡ false → (a && b) ≡ false
not_both true b h = absurd (cc)
not_both false b h = refl

module _ {Program Item State Shown : Type 0} {IsItem : Item → Type 0} {IsShown : Shown → Type 0} {IsState : State → Type 0} (run : Run Item State Shown) (fact : IsRun IsItem IsShown IsState run) (rounds : ℕ) (view : HostView Program Item State Shown) (stands : StandsFor run rounds view) (done : IsDone run.division view) where
  -- a proxy that shows something knows by now what it shows next
  next_is_known : (l : ℕ) → l < length view.vertices → is_lit run.division view l ≡ true → shows_next run rounds view (vertex view l) ≡ shows run (suc rounds) (vertex view l)
  next_is_known l within lit =
      let v = vertex view l in
      let at_home = stands.share.masters_first l within in
      elim (cases_Bool (nat_lt l view.masters)) [
        | inl home ↦ ap (λ b. cond (cond b view.has_spread (was_told run.division view v)) (shows run (suc rounds) v) (shows run rounds v)) (at_home ∙ home)
            ∙ ap (λ b. cond b (shows run (suc rounds) v) (shows run rounds v)) done.spread
        | inr away ↦ ap (λ b. cond (cond b view.has_spread (was_told run.division view v)) (shows run (suc rounds) v) (shows run rounds v)) (at_home ∙ away)
            ∙ ap (λ b. cond b (shows run (suc rounds) v) (shows run rounds v))
            (done.told v (stands.share.are_nodes l within) (at_home ∙ away) (sym (ap (λ b. b || is_readable run.division view.host v) away) ∙ lit))
      ]

  -- once closed, it shows that until it is told more
  shows_until_told : (v : ℕ) → shows_next run (suc rounds) (closed view) v ≡ shows run (suc rounds) v
  shows_until_told v =
      ap (λ b. cond (cond (run.division.master v == view.host) false b) (shows run (suc (suc rounds)) v) (shows run (suc rounds) v)) (all_false (length view.took_broadcast) (run.division.master v))
      ∙ either (run.division.master v == view.host)
    where
      either : (b : Bool) → cond (cond b false false) (shows run (suc (suc rounds)) v) (shows run (suc rounds) v) ≡ shows run (suc rounds) v
      either true = refl
      either false = refl

  -- nothing has come for a master
  nothing_yet : (v : ℕ) → sum_so_far run (suc rounds) (closed view) v ≡ run.reducer.identity
  nothing_yet v =
      ap (λ xs. run.reducer.combine run.reducer.identity (combined run.reducer (λ from. gathered run (suc rounds) from v) xs))
      (filter_all (λ from. get_or (replicate (length view.took_reduce) false) from false && carries run.item_size (reduce_packet run (suc rounds) from view.host) v)
      (λ from. not_both (get_or (replicate (length view.took_reduce) false) from false) _ (all_false (length view.took_reduce) from)) (hosts_of run.division))
      ∙ fact.reduction.combine-identity run.reducer.identity fact.reduction.identity_is_value

  -- a mirror keeps by now what it keeps after the round
  keeps_after : (l : ℕ) → view.masters ≤ l → l < length view.vertices → kept_so_far run rounds view (vertex view l) ≡ kept run (suc rounds) view.host (vertex view l)
  keeps_after l mirror within =
      ap (λ b. cond (not b) (kept run rounds view.host v) (cond (not run.reducer.keeps || (was_told run.division view v && is_readable run.division view.host v)) (kept run (suc rounds) view.host v) (gathered run rounds view.host v))) done.computed
      ∙ step run.reducer.keeps refl (is_readable run.division view.host v) refl
    where
      v : ℕ
      v = vertex view l

      away : (run.division.master v == view.host) ≡ false
      away = stands.share.masters_first l within ∙ grind (arith, nat_tests)

      step : (keeps : Bool) → run.reducer.keeps ≡ keeps → (read : Bool) → is_readable run.division view.host v ≡ read → cond (not keeps || (was_told run.division view v && read)) (kept run (suc rounds) view.host v) (gathered run rounds view.host v) ≡ kept run (suc rounds) view.host v
      step false k read r = refl
      step true k true r = ap (λ b. cond (b && true) (kept run (suc rounds) view.host v) (gathered run rounds view.host v)) (done.told v (stands.share.are_nodes l within) away r)
      step true k false r =
          ap (λ b. cond b (kept run (suc rounds) view.host v) (gathered run rounds view.host v)) (unread (was_told run.division view v))
          ∙ sym (kept_untold run k rounds view.host v (unread_is_untold run rounds view.host v (stands.share.are_nodes l within) r))
        where
          unread : (b : Bool) → (b && false) ≡ false
          unread true = refl
          unread false = refl

  pub closed_stands : StandsFor run (suc rounds) (closed view)
  closed_stands = record {
    share = record { is_host = stands.share.is_host; are_nodes = stands.share.are_nodes; masters_first = stands.share.masters_first; masters_fit = stands.share.masters_fit; masters_are = stands.share.masters_are; reduce_by_host = length-replicate (length view.took_reduce) false ∙ stands.share.reduce_by_host; broadcast_by_host = length-replicate (length view.took_broadcast) false ∙ stands.share.broadcast_by_host };
    computed_first = λ h. absurd (both_ways false refl h);
    reduced_first = λ h. absurd (both_ways false refl h);
    states = λ l d master. stands.states l d master ∙ ap (λ b. state_of run (cond b (suc rounds) rounds) (vertex view l)) done.spread;
    shown = λ l d within lit. stands.next l d within lit ∙ next_is_known l within lit;
    awake = λ l within lit. stands.awake_next l within lit ∙ ap (λ y. not (run.steps.same (shows run rounds (vertex view l)) y)) (next_is_known l within lit);
    next = λ l d within lit. stands.next l d within lit ∙ next_is_known l within lit ∙ sym (shows_until_told (vertex view l));
    awake_next = λ l within lit. all_false (length view.awake_next) l
        ∙ sym (ap (λ y. not (run.steps.same (shows run (suc rounds) (vertex view l)) y)) (shows_until_told (vertex view l))
        ∙ ap not ((fact.program.same_tells (shows run (suc rounds) (vertex view l)) (shows run (suc rounds) (vertex view l))
        (shows_value run fact (suc rounds) (vertex view l) (stands.share.are_nodes l within)) (shows_value run fact (suc rounds) (vertex view l) (stands.share.are_nodes l within))).1 refl));
    sums = λ l d master. stands.sums l d master ∙ ap (λ b. cond b run.reducer.identity (sum_so_far run rounds view (vertex view l))) done.spread ∙ sym (nothing_yet (vertex view l));
    keeps = λ l d mirror within written. stands.keeps l d mirror within written ∙ keeps_after l mirror within;
    told_early = λ _ l mirror within told. absurd (both_ways (get_or (replicate (length view.took_broadcast) false) (run.division.master (vertex view l)) false) (all_false (length view.took_broadcast) (run.division.master (vertex view l))) told);
  }
