-- One master settles, or has nothing to settle with.
use Rattle.std.proofs.Common.{◌≡◌, ◌↔◌, Bool, true, false, not, refl, sym, ap, ◌∙◌}
use Rattle.reduce_laws.specs.ReductionLaws.{Reducer}
use Rattle.reduce_laws.specs.ProgramLaws.{Steps, ProgramLaws}

-- A master in the state `was` settled with `got`: it is in the state `now`, `left` is its sum, `next` is what
-- it shows in the next round, where it showed `shows`, and whether it is awake there.
pub record IsSettled {Item State Shown : Type 0} (reducer : Reducer Item) (steps : Steps Item State Shown) (was now : State) (got left : Item) (shows next : Shown) (awake : Bool) : Type 0 where
  pub settles : now ≡ steps.settle was got
  pub sum : left ≡ reducer.identity
  pub shown : next ≡ steps.shown now
  pub wakes : awake ≡ not (steps.same shows next)
  pub still : steps.settle now reducer.identity ≡ now

-- two tests of one fact tell the same
two_tests : {P : Type 0} (a b : Bool) → ((a ≡ true) ↔ P) → ((b ≡ true) ↔ P) → a ≡ b
two_tests true b p q = sym (q.1 (p.0 refl))
two_tests false true p q = p.1 (q.0 refl)
two_tests false false p q = refl

-- what is told of some values is told of the same values
pub IsSettled-same : {Item State Shown : Type 0} {reducer : Reducer Item} {steps : Steps Item State Shown} {was now then : State} {got left kept : Item} {shows next after : Shown} {awake woken : Bool}
    → then ≡ now → kept ≡ left → after ≡ next → woken ≡ awake → IsSettled reducer steps was now got left shows next awake → IsSettled reducer steps was then got kept shows after woken
IsSettled-same {reducer = reducer} {steps = steps} {shows = shows} state sum shown wakes settled = record {
  settles = state ∙ settled.settles;
  sum = sum ∙ settled.sum;
  shown = shown ∙ settled.shown ∙ ap steps.shown (sym state);
  wakes = wakes ∙ settled.wakes ∙ ap (λ y. not (steps.same shows y)) (sym shown);
  still = ap (λ s. steps.settle s reducer.identity) state ∙ settled.still ∙ sym state;
}

module _ {Item State Shown : Type 0} {IsItem : Item → Type 0} {IsShown : Shown → Type 0} {IsState : State → Type 0} {reducer : Reducer Item} {steps : Steps Item State Shown} (laws : ProgramLaws IsItem IsShown IsState reducer steps) where
  -- a master that the identity does not move has settled with it
  pub unmoved_is_settled : (s : State) (got : Item) (shows next : Shown) (awake : Bool) → IsShown shows → got ≡ reducer.identity → steps.settle s reducer.identity ≡ s
      → next ≡ steps.shown s → next ≡ shows → awake ≡ false → IsSettled reducer steps s s got got shows next awake
  unmoved_is_settled s got shows next awake is_shown none still shown quiet asleep = record {
    settles = sym still ∙ ap (steps.settle s) (sym none);
    sum = none;
    shown = shown;
    wakes = asleep ∙ ap not (sym ((laws.same_tells shows shows is_shown is_shown).1 refl)) ∙ ap (λ y. not (steps.same shows y)) (sym quiet);
    still = still;
  }

  -- a master that settles
  pub moved_is_settled : (eq : Shown → Shown → Bool) → ((x y : Shown) → IsShown x → IsShown y → (eq x y ≡ true) ↔ (x ≡ y)) → (s : State) (got : Item) (shows : Shown) → IsState s → IsItem got → IsShown shows
      → IsSettled reducer steps s (steps.settle s got) got reducer.identity shows (steps.shown (steps.settle s got)) (not (eq shows (steps.shown (steps.settle s got))))
  moved_is_settled eq eq_is_same s got shows is_state is_item is_shown = record {
    settles = refl;
    sum = refl;
    shown = refl;
    wakes = ap not (two_tests (eq shows (steps.shown (steps.settle s got))) (steps.same shows (steps.shown (steps.settle s got)))
        (eq_is_same shows (steps.shown (steps.settle s got)) is_shown next_is) (laws.same_tells shows (steps.shown (steps.settle s got)) is_shown next_is));
    still = laws.settle_then_identity s got is_state is_item;
  }
    where
      next_is : IsShown (steps.shown (steps.settle s got))
      next_is = laws.shown_is_value (steps.settle s got) (laws.settle_is_state s got is_state is_item)
