-- Masters settle one after another, by rising local number: those that have news. The others need not.
use Rattle.std.proofs.Common.{◌≡◌, ◌↔◌, ◌<◌, ◌≤◌, ◌+◌, ◌⊎◌, ℕ, Bool, true, false, not, List, length, get_or, set, ◌≢◌, sym, ap, subst, ◌∙◌, inl, inr, arith}
use Rattle.std.specs.List.{All}
use Rattle.std.proofs.lemmas.Bool.{cases_lt}
use Rattle.std.proofs.lemmas.List.{get_or-set_same, get_or-set_other, length-set}
use Rattle.std.proofs.lemmas.List.Elements.{All-set}
use Rattle.list_laws.specs.Members.{has_member, IsLeastMemberSince, HasNoMemberSince}
use Rattle.reduce_laws.specs.ReductionLaws.{Reducer, ReductionLaws}
use Rattle.reduce_laws.specs.ProgramLaws.{Steps, ProgramLaws}
use Rattle.host_fields.proofs.Settled.{IsSettled, IsSettled-same, unmoved_is_settled, moved_is_settled}

-- what settling changes, by local number
pub record Fields (Item State Shown : Type 0) : Type 0 where
  pub states : List State
  pub items : List Item
  pub next : List Shown
  pub awake : List Bool

module _ {Item State Shown : Type 0} where
  -- masters without news are not moved, none is awake, and none shows anything new
  pub record AreQuiet (reducer : Reducer Item) (steps : Steps Item State Shown) (masters : ℕ) (shown : List Shown) (news : List Bool) (fields : Fields Item State Shown) : Type 0 where
    pub unmoved : (k : ℕ) (s : State) (d : Item) → k < masters → has_member news k ≡ false
        → (get_or fields.items k d ≡ reducer.identity) × (steps.settle (get_or fields.states k s) reducer.identity ≡ get_or fields.states k s)
    pub states_show : (k : ℕ) (s : State) (y : Shown) → k < masters → get_or fields.next k y ≡ steps.shown (get_or fields.states k s)
    pub quiet : (k : ℕ) (y : Shown) → k < masters → get_or fields.next k y ≡ get_or shown k y
    pub asleep : (k : ℕ) → k < masters → has_member fields.awake k ≡ false

  -- each master has a state, a sum, what it shows in both rounds, and a place in the set
  pub record AreLong (masters : ℕ) (shown : List Shown) (fields : Fields Item State Shown) : Type 0 where
    pub states : masters ≤ length fields.states
    pub items : masters ≤ length fields.items
    pub showing : masters ≤ length shown
    pub next : masters ≤ length fields.next
    pub awake : masters ≤ length fields.awake

  -- all are states and values
  pub record AreValues (IsItem : Item → Type 0) (IsShown : Shown → Type 0) (IsState : State → Type 0) (fields : Fields Item State Shown) : Type 0 where
    pub states : All IsState fields.states
    pub items : All IsItem fields.items
    pub next : All IsShown fields.next

  -- the masters below a place have settled, and all others are as they were
  pub record AreSettledBelow (reducer : Reducer Item) (steps : Steps Item State Shown) (masters : ℕ) (shown : List Shown) (was : Fields Item State Shown) (place : ℕ) (now : Fields Item State Shown) : Type 0 where
    pub settled : (k : ℕ) (s : State) (d : Item) (y : Shown) → k < masters → k < place
        → IsSettled reducer steps (get_or was.states k s) (get_or now.states k s) (get_or was.items k d) (get_or now.items k d) (get_or shown k y) (get_or now.next k y) (has_member now.awake k)
    pub states : (k : ℕ) (s : State) → place ≤ k → get_or now.states k s ≡ get_or was.states k s
    pub items : (k : ℕ) (d : Item) → place ≤ k → get_or now.items k d ≡ get_or was.items k d
    pub next : (k : ℕ) (y : Shown) → place ≤ k → get_or now.next k y ≡ get_or was.next k y
    pub awake : (k : ℕ) → place ≤ k → has_member now.awake k ≡ has_member was.awake k

  -- one master settles
  pub record SettlesOne (eq : Shown → Shown → Bool) (reducer : Reducer Item) (steps : Steps Item State Shown) (local : ℕ) (shown : List Shown) (now then : Fields Item State Shown) : Type 0 where
    pub state : (s : State) (d : Item) → then.states ≡ set now.states local (steps.settle (get_or now.states local s) (get_or now.items local d))
    pub sum : then.items ≡ set now.items local reducer.identity
    pub shows : (s : State) → then.next ≡ set now.next local (steps.shown (get_or then.states local s))
    pub wakes : (y : Shown) → then.awake ≡ set now.awake local (not (eq (get_or shown local y) (get_or then.next local y)))

module _ {Item State Shown : Type 0} {IsItem : Item → Type 0} {IsShown : Shown → Type 0} {IsState : State → Type 0} {reducer : Reducer Item} {steps : Steps Item State Shown}
    (reduction : ReductionLaws IsItem reducer) (laws : ProgramLaws IsItem IsShown IsState reducer steps) (masters : ℕ) (shown : List Shown) (news : List Bool) where
  -- a master that stands still has settled
  still_is_settled : (was : Fields Item State Shown) → AreQuiet reducer steps masters shown news was → AreLong masters shown was → All IsShown shown
      → (k : ℕ) (s : State) (d : Item) (y : Shown) → k < masters → has_member news k ≡ false
      → IsSettled reducer steps (get_or was.states k s) (get_or was.states k s) (get_or was.items k d) (get_or was.items k d) (get_or shown k y) (get_or was.next k y) (has_member was.awake k)
  still_is_settled was quiet long shown_are k s d y below none =
      let within : k < length shown = omega (arith, long.showing) in
      unmoved_is_settled laws (get_or was.states k s) (get_or was.items k d) (get_or shown k y) (get_or was.next k y) (has_member was.awake k)
      (shown_are k y within) (quiet.unmoved k s d below none).0 (quiet.unmoved k s d below none).1 (quiet.states_show k s y below) (quiet.quiet k y below) (quiet.asleep k below)

  -- where none further has news all have settled
  pub all_settled : (was now : Fields Item State Shown) (place : ℕ) → AreQuiet reducer steps masters shown news was → AreLong masters shown was → All IsShown shown
      → AreSettledBelow reducer steps masters shown was place now → HasNoMemberSince news place → (k : ℕ) (s : State) (d : Item) (y : Shown) → k < masters
      → IsSettled reducer steps (get_or was.states k s) (get_or now.states k s) (get_or was.items k d) (get_or now.items k d) (get_or shown k y) (get_or now.next k y) (has_member now.awake k)
  all_settled was now place quiet long shown_are before none k s d y below =
      elim (cases_lt k place) [
        | inl old ↦ before.settled k s d y below old
        | inr new ↦ IsSettled-same (before.states k s new) (before.items k d new) (before.next k y new) (before.awake k new)
            (still_is_settled was quiet long shown_are k s d y below (none k new))
      ]

  module _ (eq : Shown → Shown → Bool) (eq_is_same : (x y : Shown) → IsShown x → IsShown y → (eq x y ≡ true) ↔ (x ≡ y))
      (was now then : Fields Item State Shown) (place local : ℕ) (quiet : AreQuiet reducer steps masters shown news was) (shown_are : All IsShown shown) (was_values : AreValues IsItem IsShown IsState was)
      (long : AreLong masters shown was) (now_long : AreLong masters shown now) (before : AreSettledBelow reducer steps masters shown was place now)
      (least : IsLeastMemberSince news place local) (below : local < masters) (one : SettlesOne eq reducer steps local shown now then) where
    -- the one that settles
    here : (s : State) (d : Item) (y : Shown)
        → IsSettled reducer steps (get_or was.states local s) (get_or then.states local s) (get_or was.items local d) (get_or then.items local d) (get_or shown local y) (get_or then.next local y) (has_member then.awake local)
    here s d y =
        let has_state : local < length now.states = omega (arith, now_long.states) in
        let has_item : local < length now.items = omega (arith, now_long.items) in
        let has_next : local < length now.next = omega (arith, now_long.next) in
        let has_bit : local < length now.awake = omega (arith, now_long.awake) in
        let had_state : local < length was.states = omega (arith, long.states) in
        let had_item : local < length was.items = omega (arith, long.items) in
        let had_shown : local < length shown = omega (arith, long.showing) in
        let state : get_or then.states local s ≡ steps.settle (get_or was.states local s) (get_or was.items local d)
        = ap (λ (l : List State). get_or l local s) (one.state s d) ∙ get_or-set_same now.states local (steps.settle (get_or now.states local s) (get_or now.items local d)) s has_state
        ∙ ap (λ x. steps.settle x (get_or now.items local d)) (before.states local s least.since) ∙ ap (steps.settle (get_or was.states local s)) (before.items local d least.since) in
        let next : get_or then.next local y ≡ steps.shown (steps.settle (get_or was.states local s) (get_or was.items local d))
        = ap (λ (l : List Shown). get_or l local y) (one.shows s) ∙ get_or-set_same now.next local (steps.shown (get_or then.states local s)) y has_next ∙ ap steps.shown state in
        IsSettled-same state
        (ap (λ (l : List Item). get_or l local d) one.sum ∙ get_or-set_same now.items local reducer.identity d has_item)
        next
        (ap (λ (l : List Bool). get_or l local false) (one.wakes y) ∙ get_or-set_same now.awake local (not (eq (get_or shown local y) (get_or then.next local y))) false has_bit
        ∙ ap (λ z. not (eq (get_or shown local y) z)) next)
        (moved_is_settled laws eq eq_is_same (get_or was.states local s) (get_or was.items local d) (get_or shown local y) (was_values.states local s had_state) (was_values.items local d had_item) (shown_are local y had_shown))

    -- all others stay
    module _ (k : ℕ) (apart : k ≢ local) where
      other_states : (s : State) → get_or then.states k s ≡ get_or now.states k s
      other_states s = ap (λ (l : List State). get_or l k s) (one.state s reducer.identity) ∙ get_or-set_other now.states local k (steps.settle (get_or now.states local s) (get_or now.items local reducer.identity)) s apart

      other_items : (d : Item) → get_or then.items k d ≡ get_or now.items k d
      other_items d = ap (λ (l : List Item). get_or l k d) one.sum ∙ get_or-set_other now.items local k reducer.identity d apart

      other_next : (y : Shown) → get_or then.next k y ≡ get_or now.next k y
      other_next y = ap (λ (l : List Shown). get_or l k y) (one.shows (steps.start 0)) ∙ get_or-set_other now.next local k (steps.shown (get_or then.states local (steps.start 0))) y apart

      other_awake : has_member then.awake k ≡ has_member now.awake k
      other_awake =
          let y : Shown = steps.shown (steps.start 0) in
          ap (λ (l : List Bool). get_or l k false) (one.wakes y) ∙ get_or-set_other now.awake local k (not (eq (get_or shown local y) (get_or then.next local y))) false apart

    -- one master more has settled
    pub one_more_settled : AreSettledBelow reducer steps masters shown was (local + 1) then
    one_more_settled = record {
      settled = λ k s d y within less. each k s d y within (cases_lt k local) less;
      states = λ k s more. other_states k (apart_from k more) s ∙ before.states k s (place_below k more);
      items = λ k d more. other_items k (apart_from k more) d ∙ before.items k d (place_below k more);
      next = λ k y more. other_next k (apart_from k more) y ∙ before.next k y (place_below k more);
      awake = λ k more. other_awake k (apart_from k more) ∙ before.awake k (place_below k more);
    }
      where
        apart_from : (k : ℕ) → local + 1 ≤ k → k ≢ local
        apart_from k more same = omega arith

        place_below : (k : ℕ) → local + 1 ≤ k → place ≤ k
        place_below k more = omega (arith, least.since)

        each : (k : ℕ) (s : State) (d : Item) (y : Shown) → k < masters → (k < local) ⊎ (local ≤ k) → k < local + 1
            → IsSettled reducer steps (get_or was.states k s) (get_or then.states k s) (get_or was.items k d) (get_or then.items k d) (get_or shown k y) (get_or then.next k y) (has_member then.awake k)
        each k s d y within (inr more) less =
            let same : local ≡ k = omega arith in
            subst (λ (i : ℕ). IsSettled reducer steps (get_or was.states i s) (get_or then.states i s) (get_or was.items i d) (get_or then.items i d) (get_or shown i y) (get_or then.next i y) (has_member then.awake i)) same (here s d y)
        each k s d y within (inl earlier) less =
            let apart : k ≢ local = λ same. omega arith in
            IsSettled-same (other_states k apart s) (other_items k apart d) (other_next k apart y) (other_awake k apart) (elim (cases_lt k place) [
              | inl old ↦ before.settled k s d y within old
              | inr new ↦ IsSettled-same (before.states k s new) (before.items k d new) (before.next k y new) (before.awake k new)
                  (still_is_settled was quiet long shown_are k s d y within (least.least k new earlier))
            ])

    -- and all are states and values as before
    pub then_values : AreValues IsItem IsShown IsState now → AreValues IsItem IsShown IsState then
    then_values values = record {
      states = then_states;
      items = subst (All IsItem) (sym one.sum) (All-set IsItem now.items local reducer.identity reduction.identity_is_value values.items);
      next = subst (All IsShown) (sym (one.shows (steps.start 0)))
          (All-set IsShown now.next local (steps.shown (get_or then.states local (steps.start 0)))
          (laws.shown_is_value (get_or then.states local (steps.start 0)) (then_states local (steps.start 0) has_then)) values.next);
    }
      where
        has_state : local < length now.states
        has_state = omega (arith, now_long.states)

        has_item : local < length now.items
        has_item = omega (arith, now_long.items)

        settled : State
        settled = steps.settle (get_or now.states local (steps.start 0)) (get_or now.items local reducer.identity)

        then_states : All IsState then.states
        then_states = subst (All IsState) (sym (one.state (steps.start 0) reducer.identity))
            (All-set IsState now.states local settled
            (laws.settle_is_state (get_or now.states local (steps.start 0)) (get_or now.items local reducer.identity) (values.states local (steps.start 0) has_state) (values.items local reducer.identity has_item)) values.states)

        has_then : local < length then.states
        has_then = omega (arith, ap length (one.state (steps.start 0) reducer.identity), length-set now.states local settled)
