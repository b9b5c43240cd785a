-- Laws of peeling and of the core to which it leads.
use Rattle.std.specs.Prelude.{◌≡◌, ◌≤◌, ◌+◌, ◌↔◌, ℕ, suc, Bool, true, List}
use Rattle.std.specs.List.Sorted.{IsPermutation}
use Rattle.graph_model.specs.Arcs.{Arc}
use Rattle.graph_model.specs.Core.{IsCore}
use Rattle.graph_model.specs.Peeling.{peel, NobodyLeaves, IsPeelCount}

-- who is left later was left before
abbrev pub PeelingFalls : Type 0
PeelingFalls =
    (k nodes : ℕ) (arcs : List Arc) (rounds later v : ℕ) →
    rounds ≤ later → peel k nodes arcs later v ≡ true → peel k nodes arcs rounds v ≡ true

-- once nobody leaves nobody leaves any more
abbrev pub PeelingStays : Type 0
PeelingStays =
    (k nodes : ℕ) (arcs : List Arc) (rounds later v : ℕ) →
    NobodyLeaves k nodes arcs rounds → rounds ≤ later → peel k nodes arcs later v ≡ peel k nodes arcs rounds v

-- and who is left then is the core
abbrev pub StillPeelIsCore : Type 0
StillPeelIsCore =
    (k nodes : ℕ) (arcs : List Arc) (rounds : ℕ) →
    NobodyLeaves k nodes arcs rounds → IsCore k nodes arcs (peel k nodes arcs rounds)

-- peeling takes at most one round more than there are nodes
abbrev pub PeelingEnds : Type 0
PeelingEnds =
    (k nodes : ℕ) (arcs : List Arc) → (rounds : ℕ) × (rounds ≤ nodes + 1) × IsPeelCount k nodes arcs rounds

-- from its last round on who is left is the core
abbrev pub LastPeelIsCore : Type 0
LastPeelIsCore =
    (k nodes : ℕ) (arcs : List Arc) (rounds later : ℕ) →
    IsPeelCount k nodes arcs rounds → rounds ≤ later → IsCore k nodes arcs (peel k nodes arcs later)

-- nobody leaves in its last round nor in any later one, and in each earlier round somebody does
abbrev pub LeavingEndsAtLast : Type 0
LeavingEndsAtLast =
    (k nodes : ℕ) (arcs : List Arc) (rounds before : ℕ) →
    IsPeelCount k nodes arcs rounds → NobodyLeaves k nodes arcs before ↔ (rounds ≤ suc before)

-- a graph has a core of each degree
abbrev pub CoreExists : Type 0
CoreExists = (k nodes : ℕ) (arcs : List Arc) → (core : ℕ → Bool) × IsCore k nodes arcs core

-- and no other
abbrev pub CoreIsUnique : Type 0
CoreIsUnique =
    (k nodes : ℕ) (arcs : List Arc) (core other : ℕ → Bool) (v : ℕ) →
    IsCore k nodes arcs core → IsCore k nodes arcs other → core v ≡ other v

-- peeling takes one number of rounds
abbrev pub PeelCountIsUnique : Type 0
PeelCountIsUnique =
    (k nodes : ℕ) (arcs : List Arc) (rounds others : ℕ) →
    IsPeelCount k nodes arcs rounds → IsPeelCount k nodes arcs others → rounds ≡ others

-- the order of the arcs makes no difference
abbrev pub PeelingOrderIsFree : Type 0
PeelingOrderIsFree =
    (k nodes : ℕ) (arcs others : List Arc) (rounds v : ℕ) →
    IsPermutation arcs others → peel k nodes arcs rounds v ≡ peel k nodes others rounds v

-- neither to the number of its rounds
abbrev pub PeelCountOrderIsFree : Type 0
PeelCountOrderIsFree =
    (k nodes : ℕ) (arcs others : List Arc) (rounds : ℕ) →
    IsPermutation arcs others → IsPeelCount k nodes arcs rounds → IsPeelCount k nodes others rounds

-- nor to the core
abbrev pub CoreOrderIsFree : Type 0
CoreOrderIsFree =
    (k nodes : ℕ) (arcs others : List Arc) (core : ℕ → Bool) →
    IsPermutation arcs others → IsCore k nodes arcs core → IsCore k nodes others core
