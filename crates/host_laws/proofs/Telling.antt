-- A host that takes a broadcast packet stands for the same round.
use Rattle.std.proofs.Common.{◌≡◌, ◌≢◌, ℕ, suc, ◌<◌, ◌≤◌, true, false, Bool, cond, not, ◌&&◌, ◌||◌, ◌==◌, nat_lt, Some, None, List, length, set, get_or, refl, sym, ◌∙◌, ap, ◌⊎◌, inl, inr, arith}
use Rattle.std.specs.List.{list_any}
use Rattle.std.specs.Option.{unwrap_or}
use Rattle.std.proofs.lemmas.Bool.{cases_Bool, both_ways, cases_lt, eq-eqb, ne_eqb}
use Rattle.std.proofs.lemmas.Bool.Decides.{nat_tests, eqb_tells}
use Rattle.std.proofs.lemmas.List.{length-set, get_or-set_same, get_or-set_other}
use Rattle.round_packets.specs.Runs.{Run, IsRun, shows}
use Rattle.graph_division.specs.Lists.{is_readable, is_writable, is_mirror, broadcast_list}
use Rattle.round_packets.specs.Packets.{tag_of, carries}
use Rattle.round_packets.specs.RunPackets.{broadcast_packet, kept, gathered}
use Rattle.graph_division.proofs.Listed.{picked}
use Rattle.round_packets.proofs.Shares.{shows_value}
use Rattle.round_packets.proofs.Kept.{kept_told, kept_untold, unread_is_untold}
use Rattle.round_packets.proofs.Carried.{untold_is_unchanged}
use Rattle.host_laws.specs.HostView.{HostView, vertex}
use Rattle.host_laws.specs.Standing.{StandsFor, is_lit, was_told, kept_so_far, shows_next, NoneIsWritten}
use Rattle.host_laws.specs.Effects.{TakesBroadcast, after_broadcast}

module _ {Program Item State Shown : Type 0} {IsItem : Item → Type 0} {IsShown : Shown → Type 0} {IsState : State → Type 0} (run : Run Item State Shown) (fact : IsRun IsItem IsShown IsState run) (rounds : ℕ) (view : HostView Program Item State Shown) (stands : StandsFor run rounds view)
    (from : ℕ) (there : from < run.division.hosts) (fresh : get_or view.took_broadcast from false ≡ false) (next : List Shown) (items : List Item) (awake_next : List Bool) (effect : TakesBroadcast run rounds from view next items awake_next) where
  -- whether the packet carries a vertex
  tells : ℕ → Bool
  tells v = carries run.shown_size (broadcast_packet run rounds from view.host) v

  -- who is carried is a mirror here of the sender's
  listed : (v : ℕ) → v < run.division.nodes → list_any (λ id. id == v) (broadcast_list run.division from view.host) ≡ (run.division.master v == from && (is_mirror run.division view.host v && is_readable run.division view.host v))
  listed v below = picked (λ u. run.division.master u == from && (is_mirror run.division view.host u && is_readable run.division view.host u)) 0 run.division.nodes v (omega arith) (omega arith)

  away : (l : ℕ) → view.masters ≤ l → l < length view.vertices → (run.division.master (vertex view l) == view.host) ≡ false
  away l mirror within = stands.share.masters_first l within ∙ grind (arith, nat_tests)

  read_mirror_is_listed : (l : ℕ) → view.masters ≤ l → l < length view.vertices → is_readable run.division view.host (vertex view l) ≡ true → run.division.master (vertex view l) ≡ from → list_any (λ id. id == vertex view l) (broadcast_list run.division from view.host) ≡ true
  read_mirror_is_listed l mirror within read is =
      listed v (stands.share.are_nodes l within)
      ∙ ap (λ b. b && (is_mirror run.division view.host v && is_readable run.division view.host v)) (eq-eqb (run.division.master v) from is)
      ∙ ap (λ b. (not b && (is_readable run.division view.host v || is_writable run.division view.host v)) && is_readable run.division view.host v) (away l mirror within)
      ∙ ap (λ b. (b || is_writable run.division view.host v) && b) read
    where
      v : ℕ
      v = vertex view l

  others_not_told : (l : ℕ) → l < length view.vertices → run.division.master (vertex view l) ≢ from → tells (vertex view l) ≡ false
  unfolding tells
  others_not_told l within other =
      ap (λ b. b && (tag_of run.shown_size (broadcast_packet run rounds from view.host) == 0 || not (run.steps.same (shows run rounds v) (shows run (suc rounds) v))))
      (listed v (stands.share.are_nodes l within) ∙ ap (λ b. b && (is_mirror run.division view.host v && is_readable run.division view.host v)) (ne_eqb (run.division.master v) from other))
    where
      v : ℕ
      v = vertex view l

  within_took : from < length view.took_broadcast
  within_took = let long = stands.share.broadcast_by_host in omega arith

  -- who is told of by the packet was not told of before, and is now
  told_now : (v : ℕ) → run.division.master v ≡ from → get_or (set view.took_broadcast from true) (run.division.master v) false ≡ true
  told_now v is = ap (λ n. get_or (set view.took_broadcast from true) n false) is ∙ get_or-set_same view.took_broadcast from true false within_took

  told_before : (v : ℕ) → run.division.master v ≢ from → get_or (set view.took_broadcast from true) (run.division.master v) false ≡ was_told run.division view v
  told_before v other = get_or-set_other view.took_broadcast from (run.division.master v) true false other

  fresh_of : (v : ℕ) → run.division.master v ≡ from → was_told run.division view v ≡ false
  fresh_of v is = ap (λ n. get_or view.took_broadcast n false) is ∙ fresh

  new_view : HostView Program Item State Shown
  new_view = after_broadcast from view next items awake_next

  -- what a lit mirror shows next, before and after
  next_before : (l : ℕ) → view.masters ≤ l → l < length view.vertices → run.division.master (vertex view l) ≡ from → shows_next run rounds view (vertex view l) ≡ shows run rounds (vertex view l)
  next_before l mirror within is =
      let v = vertex view l in
      ap (λ b. cond (cond b view.has_spread (was_told run.division view v)) (shows run (suc rounds) v) (shows run rounds v)) (away l mirror within)
      ∙ ap (λ b. cond b (shows run (suc rounds) v) (shows run rounds v)) (fresh_of v is)

  next_after : (l : ℕ) → view.masters ≤ l → l < length view.vertices → run.division.master (vertex view l) ≡ from → shows_next run rounds new_view (vertex view l) ≡ shows run (suc rounds) (vertex view l)
  unfolding new_view
  next_after l mirror within is =
      let v = vertex view l in
      ap (λ b. cond (cond b view.has_spread (get_or (set view.took_broadcast from true) (run.division.master v) false)) (shows run (suc rounds) v) (shows run rounds v)) (away l mirror within)
      ∙ ap (λ b. cond b (shows run (suc rounds) v) (shows run rounds v)) (told_now v is)

  next_same : (v : ℕ) → run.division.master v ≢ from → shows_next run rounds view v ≡ shows_next run rounds new_view v
  unfolding new_view
  next_same v other = ap (λ b. cond (cond (run.division.master v == view.host) view.has_spread b) (shows run (suc rounds) v) (shows run rounds v)) (sym (told_before v other))

  unchanged : (l : ℕ) → view.masters ≤ l → l < length view.vertices → is_readable run.division view.host (vertex view l) ≡ true → run.division.master (vertex view l) ≡ from → tells (vertex view l) ≡ false → shows run (suc rounds) (vertex view l) ≡ shows run rounds (vertex view l)
  unfolding tells
  unchanged l mirror within read is untold =
      untold_is_unchanged IsItem IsShown IsState run rounds from view.host (vertex view l) fact (stands.share.are_nodes l within) (read_mirror_is_listed l mirror within read is) untold

  lit_mirror_is_read : (l : ℕ) → view.masters ≤ l → is_lit run.division view l ≡ true → is_readable run.division view.host (vertex view l) ≡ true
  lit_mirror_is_read l mirror lit = let no_master : nat_lt l view.masters ≡ false = grind (arith, nat_tests) in sym (ap (λ b. b || is_readable run.division view.host (vertex view l)) no_master) ∙ lit

  -- what a lit mirror shows next
  next_holds : (l : ℕ) (y : Shown) → view.masters ≤ l → l < length view.vertices → is_lit run.division view l ≡ true → get_or next l y ≡ shows_next run rounds new_view (vertex view l)
  unfolding tells
  next_holds l y mirror within lit =
      effect.told l y mirror within
      ∙ (elim (eqb_tells (run.division.master v) from) [
        | inr other ↦ ap (λ b. unwrap_or (cond b (Some (shows run (suc rounds) v)) None) (get_or view.next l y)) (others_not_told l within other.1)
            ∙ stands.next l y within lit ∙ next_same v other.1
        | inl is ↦ step (tells v) refl is.1 ∙ sym (next_after l mirror within is.1)
      ])
    where
      v : ℕ
      v = vertex view l

      step : (b : Bool) → tells v ≡ b → run.division.master v ≡ from → unwrap_or (cond (tells v) (Some (shows run (suc rounds) v)) None) (get_or view.next l y) ≡ shows run (suc rounds) v
      step true tell is = ap (λ b. unwrap_or (cond b (Some (shows run (suc rounds) v)) None) (get_or view.next l y)) tell
      step false tell is = ap (λ b. unwrap_or (cond b (Some (shows run (suc rounds) v)) None) (get_or view.next l y)) tell
          ∙ stands.next l y within lit ∙ next_before l mirror within is ∙ sym (unchanged l mirror within (lit_mirror_is_read l mirror lit) is tell)

  -- and whether it is awake
  wakes_holds : (l : ℕ) → view.masters ≤ l → l < length view.vertices → is_lit run.division view l ≡ true → get_or awake_next l false ≡ not (run.steps.same (shows run rounds (vertex view l)) (shows_next run rounds new_view (vertex view l)))
  unfolding tells
  wakes_holds l mirror within lit =
      effect.wakes l y mirror within
      ∙ ap (λ x. cond (tells v && not (run.steps.same x (get_or next l y))) true (get_or view.awake_next l false)) (stands.shown l y within lit)
      ∙ ap (λ x. cond (tells v && not (run.steps.same (shows run rounds v) x)) true (get_or view.awake_next l false)) (next_holds l y mirror within lit)
      ∙ (elim (eqb_tells (run.division.master v) from) [
        | inr other ↦ ap (λ b. cond (b && not (run.steps.same (shows run rounds v) (shows_next run rounds new_view v))) true (get_or view.awake_next l false)) (others_not_told l within other.1)
            ∙ stands.awake_next l within lit ∙ ap (λ x. not (run.steps.same (shows run rounds v) x)) (next_same v other.1)
        | inl is ↦ ap (λ x. cond (tells v && not (run.steps.same (shows run rounds v) x)) true (get_or view.awake_next l false)) (next_after l mirror within is.1)
            ∙ step (tells v) refl (run.steps.same (shows run rounds v) (shows run (suc rounds) v)) refl is.1
            ∙ ap (λ x. not (run.steps.same (shows run rounds v) x)) (sym (next_after l mirror within is.1))
      ])
    where
      v : ℕ
      v = vertex view l

      y : Shown
      y = shows run rounds v

      below : v < run.division.nodes
      below = stands.share.are_nodes l within

      same_itself : run.steps.same (shows run rounds v) (shows run rounds v) ≡ true
      same_itself = (fact.program.same_tells (shows run rounds v) (shows run rounds v) (shows_value run fact rounds v below) (shows_value run fact rounds v below)).1 refl

      asleep : run.division.master v ≡ from → get_or view.awake_next l false ≡ false
      asleep is = stands.awake_next l within lit ∙ ap (λ x. not (run.steps.same (shows run rounds v) x)) (next_before l mirror within is) ∙ ap not same_itself

      step : (b : Bool) → tells v ≡ b → (c : Bool) → run.steps.same (shows run rounds v) (shows run (suc rounds) v) ≡ c → run.division.master v ≡ from → cond (tells v && not (run.steps.same (shows run rounds v) (shows run (suc rounds) v))) true (get_or view.awake_next l false) ≡ not (run.steps.same (shows run rounds v) (shows run (suc rounds) v))
      step true tell true same is = ap (λ b. cond (tells v && not b) true (get_or view.awake_next l false)) same ∙ ap (λ b. cond (b && false) true (get_or view.awake_next l false)) tell ∙ asleep is ∙ sym (ap not same)
      step true tell false same is = ap (λ b. cond (tells v && not b) true (get_or view.awake_next l false)) same ∙ ap (λ b. cond (b && true) true (get_or view.awake_next l false)) tell ∙ sym (ap not same)
      step false tell c same is = ap (λ b. cond (b && not (run.steps.same (shows run rounds v) (shows run (suc rounds) v))) true (get_or view.awake_next l false)) tell ∙ asleep is
          ∙ sym (ap (λ x. not (run.steps.same (shows run rounds v) x)) (unchanged l mirror within (lit_mirror_is_read l mirror lit) is tell) ∙ ap not same_itself)

  module _ (may : (view.has_computed ≡ true) ⊎ NoneIsWritten run.division from view) where
    -- who is told of and written sends first, so the host has computed
    computed_by_now : (l : ℕ) → view.masters ≤ l → l < length view.vertices → is_readable run.division view.host (vertex view l) ≡ true → is_writable run.division view.host (vertex view l) ≡ true → run.division.master (vertex view l) ≡ from → view.has_computed ≡ true
    computed_by_now l mirror within read written is =
        elim may [
          | inl computed ↦ computed
          | inr none ↦ absurd (both_ways (is_writable run.division view.host (vertex view l)) (none (vertex view l) (stands.share.are_nodes l within) (read_mirror_is_listed l mirror within read is)) written)
        ]

    -- what a written mirror keeps
    keeps_holds : (l : ℕ) (x : Item) → view.masters ≤ l → l < length view.vertices → is_writable run.division view.host (vertex view l) ≡ true → get_or items l x ≡ kept_so_far run rounds new_view (vertex view l)
    unfolding tells new_view
    keeps_holds l x mirror within written =
        effect.keeps l x (shows run rounds v) mirror within written
        ∙ (elim (eqb_tells (run.division.master v) from) [
          | inr other ↦ ap (λ b. cond (run.reducer.keeps && b) (run.steps.keep (get_or next l (shows run rounds v))) (get_or view.items l x)) (others_not_told l within other.1)
              ∙ skipped run.reducer.keeps
              ∙ stands.keeps l x mirror within written
              ∙ ap (λ b. cond (not view.has_computed) (kept run rounds view.host v) (cond (not run.reducer.keeps || (b && is_readable run.division view.host v)) (kept run (suc rounds) view.host v) (gathered run rounds view.host v))) (sym (told_before v other.1))
          | inl is ↦ by_reading (is_readable run.division view.host v) refl is.1
        ])
      where
        v : ℕ
        v = vertex view l

        skipped : (b : Bool) → cond (b && false) (run.steps.keep (get_or next l (shows run rounds v))) (get_or view.items l x) ≡ get_or view.items l x
        skipped true = refl
        skipped false = refl

        with_false : (b : Bool) → (b && false) ≡ false
        with_false true = refl
        with_false false = refl

        -- the packet in hand is that of the vertex's master
        told_by_master : run.division.master v ≡ from → tells v ≡ carries run.shown_size (broadcast_packet run rounds (run.division.master v) view.host) v
        told_by_master is = ap (λ h. carries run.shown_size (broadcast_packet run rounds h view.host) v) (sym is)

        by_telling : (k : Bool) → run.reducer.keeps ≡ k → (t : Bool) → tells v ≡ t → view.has_computed ≡ true → is_lit run.division view l ≡ true → run.division.master v ≡ from
            → cond (k && t) (run.steps.keep (get_or next l (shows run rounds v))) (cond (not k) (kept run (suc rounds) view.host v) (gathered run rounds view.host v)) ≡ kept run (suc rounds) view.host v
        by_telling false k t tell computed lit is = refl
        by_telling true k true tell computed lit is =
            ap run.steps.keep (next_holds l (shows run rounds v) mirror within lit ∙ next_after l mirror within is) ∙ sym (kept_told run k rounds view.host v (sym (told_by_master is) ∙ tell))
        by_telling true k false tell computed lit is = sym (kept_untold run k rounds view.host v (sym (told_by_master is) ∙ tell))

        or_false : (b : Bool) → (b || false) ≡ b
        or_false true = refl
        or_false false = refl

        or_true : (b : Bool) → (b || true) ≡ true
        or_true true = refl
        or_true false = refl

        by_reading : (r : Bool) → is_readable run.division view.host v ≡ r → run.division.master v ≡ from → cond (run.reducer.keeps && tells v) (run.steps.keep (get_or next l (shows run rounds v))) (get_or view.items l x) ≡ kept_so_far run rounds new_view v
        by_reading true read is =
            let computed = computed_by_now l mirror within read written is in
            ap (λ y. cond (run.reducer.keeps && tells v) (run.steps.keep (get_or next l (shows run rounds v))) y)
            (stands.keeps l x mirror within written
            ∙ ap (λ b. cond (not b) (kept run rounds view.host v) (cond (not run.reducer.keeps || (was_told run.division view v && is_readable run.division view.host v)) (kept run (suc rounds) view.host v) (gathered run rounds view.host v))) computed
            ∙ ap (λ b. cond (not run.reducer.keeps || (b && is_readable run.division view.host v)) (kept run (suc rounds) view.host v) (gathered run rounds view.host v)) (fresh_of v is)
            ∙ ap (λ b. cond b (kept run (suc rounds) view.host v) (gathered run rounds view.host v)) (or_false (not run.reducer.keeps)))
            ∙ by_telling run.reducer.keeps refl (tells v) refl computed (ap (λ b. nat_lt l view.masters || b) read ∙ or_true (nat_lt l view.masters)) is
            ∙ sym (ap (λ b. cond (not b) (kept run rounds view.host v) (cond (not run.reducer.keeps || (get_or (set view.took_broadcast from true) (run.division.master v) false && is_readable run.division view.host v)) (kept run (suc rounds) view.host v) (gathered run rounds view.host v))) computed
            ∙ ap (λ b. cond (not run.reducer.keeps || (b && is_readable run.division view.host v)) (kept run (suc rounds) view.host v) (gathered run rounds view.host v)) (told_now v is)
            ∙ ap (λ b. cond (not run.reducer.keeps || b) (kept run (suc rounds) view.host v) (gathered run rounds view.host v)) read
            ∙ ap (λ b. cond b (kept run (suc rounds) view.host v) (gathered run rounds view.host v)) (or_true (not run.reducer.keeps)))
        by_reading false unread is =
            ap (λ b. cond (run.reducer.keeps && b) (run.steps.keep (get_or next l (shows run rounds v))) (get_or view.items l x))
            (ap (λ h. carries run.shown_size (broadcast_packet run rounds h view.host) v) (sym is) ∙ unread_is_untold run rounds view.host v (stands.share.are_nodes l within) unread)
            ∙ skipped run.reducer.keeps
            ∙ stands.keeps l x mirror within written
            ∙ ap (λ b. cond (not view.has_computed) (kept run rounds view.host v) (cond (not run.reducer.keeps || b) (kept run (suc rounds) view.host v) (gathered run rounds view.host v)))
            (ap (λ b. was_told run.division view v && b) unread ∙ with_false (was_told run.division view v)
            ∙ sym (ap (λ b. get_or (set view.took_broadcast from true) (run.division.master v) false && b) unread ∙ with_false (get_or (set view.took_broadcast from true) (run.division.master v) false)))

    -- a master's own host does not tell it
    next_at_home : (l : ℕ) → l < view.masters → shows_next run rounds view (vertex view l) ≡ shows_next run rounds new_view (vertex view l)
    unfolding new_view
    next_at_home l master =
        ap (λ b. cond (cond b view.has_spread (was_told run.division view v)) (shows run (suc rounds) v) (shows run rounds v)) home
        ∙ sym (ap (λ b. cond (cond b view.has_spread (get_or (set view.took_broadcast from true) (run.division.master v) false)) (shows run (suc rounds) v) (shows run rounds v)) home)
      where
        v : ℕ
        v = vertex view l

        home : (run.division.master v == view.host) ≡ true
        home = stands.share.masters_first l (let fit = stands.share.masters_fit in omega arith) ∙ grind (arith, nat_tests)

    pub told_stands : StandsFor run rounds (after_broadcast from view next items awake_next)
    unfolding new_view
    told_stands = record {
      share = record {
        is_host = stands.share.is_host;
        are_nodes = stands.share.are_nodes;
        masters_first = stands.share.masters_first;
        masters_fit = stands.share.masters_fit;
        masters_are = stands.share.masters_are;
        reduce_by_host = stands.share.reduce_by_host;
        broadcast_by_host = length-set view.took_broadcast from true ∙ stands.share.broadcast_by_host;
      };
      computed_first = stands.computed_first;
      reduced_first = stands.reduced_first;
      states = stands.states;
      shown = stands.shown;
      awake = stands.awake;
      next = λ l y within lit. elim (cases_lt l view.masters) [
        | inl master ↦ effect.next_of_masters l y master ∙ stands.next l y within lit ∙ next_at_home l master
        | inr mirror ↦ next_holds l y mirror within lit
      ];
      awake_next = λ l within lit. elim (cases_lt l view.masters) [
        | inl master ↦ effect.awake_of_masters l master ∙ stands.awake_next l within lit ∙ ap (λ x. not (run.steps.same (shows run rounds (vertex view l)) x)) (next_at_home l master)
        | inr mirror ↦ wakes_holds l mirror within lit
      ];
      sums = λ l x master. effect.sums l x master ∙ stands.sums l x master;
      keeps = keeps_holds;
      told_early = λ early l mirror within told read. elim (eqb_tells (run.division.master (vertex view l)) from) [
        | inl is ↦ (elim (cases_Bool (is_writable run.division view.host (vertex view l))) [
          | inl written ↦ absurd (both_ways view.has_computed early (computed_by_now l mirror within read written is.1))
          | inr unwritten ↦ unwritten
        ])
        | inr other ↦ stands.told_early early l mirror within (sym (told_before (vertex view l) other.1) ∙ told) read
      ];
    }
