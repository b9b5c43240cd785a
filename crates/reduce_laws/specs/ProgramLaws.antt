-- What a vertex program does at one vertex in one round, and the laws that every program keeps.
use Rattle.std.specs.Prelude.{◌≡◌, ◌↔◌, ◌<◌, ◌^◌, ℕ, Bool, true, false, Option}
use Rattle.reduce_laws.specs.ReductionLaws.{Reducer}

-- the steps of a program
pub record Steps (Item State Shown : Type 0) : Type 0 where
  -- the state in which a vertex starts
  pub start : ℕ → State
  -- what a vertex in a state shows to the vertices that its arcs lead to
  pub shown : State → Shown
  -- the test of whether two shown values are the same
  pub same : Shown → Shown → Bool
  -- the item that goes along an arc of a weight, from a tail that shows this
  pub along : Shown → ℕ → Item
  -- the state after a round that brought this item
  pub settle : State → Item → State
  -- the item that a mirror keeps once it was told what its master shows
  pub keep : Shown → Item
  -- what is printed of a state, if anything is
  pub answer : State → Option ℕ

-- the laws of a program's steps on states and values, where this is how its items combine
pub record ProgramLaws {Item State Shown : Type 0} (IsItem : Item → Type 0) (IsShown : Shown → Type 0) (IsState : State → Type 0) (reducer : Reducer Item) (steps : Steps Item State Shown) : Type 0 where
  -- a vertex starts in a state
  pub start_is_state : (v : ℕ) → v < 2 ^ 32 → IsState (steps.start v)
  -- a vertex settles in a state
  pub settle_is_state : (s : State) (x : Item) → IsState s → IsItem x → IsState (steps.settle s x)
  -- a state shows a value
  pub shown_is_value : (s : State) → IsState s → IsShown (steps.shown s)
  -- a value goes along an arc
  pub along_is_value : (y : Shown) (weight : ℕ) → IsShown y → weight < 2 ^ 32 → IsItem (steps.along y weight)
  -- a mirror keeps a value
  pub keep_is_value : (y : Shown) → IsShown y → IsItem (steps.keep y)
  -- the test is true exactly where two shown values are the same
  pub same_tells : (x y : Shown) → IsShown x → IsShown y → (steps.same x y ≡ true) ↔ (x ≡ y)
  -- a vertex that has settled stays as it is where a round brings nothing
  pub settle_then_identity : (s : State) (x : Item) → IsState s → IsItem x → steps.settle (steps.settle s x) reducer.identity ≡ steps.settle s x
  -- where items are kept, to settle with one and then with another is to settle with both
  pub settle-settle : reducer.keeps ≡ true → (s : State) (x y : Item) → IsState s → IsItem x → IsItem y → steps.settle (steps.settle s x) y ≡ steps.settle s (reducer.combine x y)
  -- where items are kept, the identity moves no vertex, whether it has settled or not
  pub settle-identity : reducer.keeps ≡ true → (s : State) → IsState s → steps.settle s reducer.identity ≡ s
  -- where items are kept, a vertex is not moved by what its mirrors keep of what it shows
  pub settle-keep : reducer.keeps ≡ true → (s : State) → IsState s → steps.settle s (steps.keep (steps.shown s)) ≡ s
  -- where items are not kept, a mirror keeps the identity
  pub keep_is_identity : reducer.keeps ≡ false → (y : Shown) → IsShown y → steps.keep y ≡ reducer.identity
