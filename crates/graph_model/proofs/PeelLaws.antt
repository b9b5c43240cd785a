-- Peeling falls, comes to an end within the nodes, and leaves the core.
use Rattle.std.proofs.Common.{◌≡◌, ℕ, zero, suc, ◌+◌, ◌<◌, ◌≤◌, ◌⊎◌, inl, inr, Bool, true, false, cond, ◌&&◌, leb, List, refl, sym, ◌∙◌, ap, subst, arith}
use Rattle.std.specs.List.Sorted.{IsPermutation}
use Rattle.std.proofs.lemmas.List.Sorted.{IsPermutation-sym}
use Rattle.std.specs.Cmp.{both_ways}
use Rattle.std.proofs.lemmas.Bool.{and_parts, and_from, leb-true, le-leb}
use Rattle.std.proofs.lemmas.Bool.Decides.{eqb_tells, leb_tells}
use Rattle.graph_model.specs.Arcs.{Arc}
use Rattle.graph_model.specs.Core.{inner_degree, HoldsDegree}
use Rattle.graph_model.specs.Peeling.{peel, NobodyLeaves}
use Rattle.graph_model.specs.CoreLaws.{PeelingFalls, PeelingStays, StillPeelIsCore, PeelingEnds, LastPeelIsCore, LeavingEndsAtLast, CoreExists, CoreIsUnique, PeelCountIsUnique, PeelingOrderIsFree, PeelCountOrderIsFree, CoreOrderIsFree}
use Rattle.graph_model.proofs.InnerDegrees.{inner_degree_grows, inner_degree_agrees, inner_degree_permuted}

-- two tests that follow from no truth
neither : (a b : Bool) → (a ≡ true → ⊥) → (b ≡ true → ⊥) → a ≡ b
neither a b ha hb = both_ways a b (λ h. absurd (ha h)) (λ h. absurd (hb h))

-- how many numbers below a count are in a set
members : (ℕ → Bool) → ℕ → ℕ
members set zero = 0
members set (suc n) = cond (set n) 1 0 + members set n

-- no more numbers than there are
members_within : (set : ℕ → Bool) (count : ℕ) → members set count ≤ count
unfolding members
members_within set zero = omega arith
members_within set (suc n) = let rest = members_within set n in let one = small (set n) in omega arith
  where
    small : (b : Bool) → cond b 1 0 ≤ 1
    small true = omega arith
    small false = omega arith

-- a number that is in a set or in a part of it
same_or_leaves : (a b : Bool) → (b ≡ true → a ≡ true) → (b ≡ a) ⊎ (cond b 1 0 < cond a 1 0)
same_or_leaves true true h = inl refl
same_or_leaves true false h = inr (omega arith)
same_or_leaves false true h = absurd (let bad = h refl in cc)
same_or_leaves false false h = inl refl

-- who is in both or in neither counts for as much
counts_same : (a b : Bool) → b ≡ a → cond {A = ℕ} b 1 0 ≡ cond a 1 0
counts_same a b h = ap (λ x. cond x 1 0) h

-- the same sets have as many members
members_same : (set part : ℕ → Bool) (count : ℕ) → ((v : ℕ) → v < count → part v ≡ set v) → members part count ≡ members set count
unfolding members
members_same set part zero same = refl
members_same set part (suc n) same =
    ap (λ b. cond b 1 0 + members part n) (same n (omega arith))
    ∙ ap (λ m. cond (set n) 1 0 + m) (members_same set part n (λ v low. same v (omega arith)))

-- a part of a set is the same below a count, or has fewer members
same_or_fewer : (set part : ℕ → Bool) (count : ℕ) → ((v : ℕ) → part v ≡ true → set v ≡ true) → ((v : ℕ) → v < count → part v ≡ set v) ⊎ (members part count < members set count)
unfolding members
same_or_fewer set part zero h = inl (λ v low. absurd (omega arith))
same_or_fewer set part (suc n) h =
    elim (same_or_fewer set part n h) [
      | inr fewer ↦ (elim (same_or_leaves (set n) (part n) (h n)) [
        | inl same ↦ inr (omega (arith, counts_same (set n) (part n) same))
        | inr less ↦ inr (omega arith)
      ])
      | inl all ↦ (elim (same_or_leaves (set n) (part n) (h n)) [
        | inl same ↦ inl (λ v low. elim (eqb_tells v n) [
          | inl is ↦ ap part is.1 ∙ same ∙ ap set (sym is.1)
          | inr other ↦ all v (let apart = other.1 in omega arith)
        ])
        | inr less ↦ inr (let rest = members_same set part n all in omega arith)
      ])
    ]

-- where peeling has come to rest
record Rest (k nodes : ℕ) (arcs : List Arc) (most : ℕ) : Type 0 where
  round : ℕ
  soon : round ≤ most
  quiet : NobodyLeaves k nodes arcs round
  first : (earlier : ℕ) → NobodyLeaves k nodes arcs earlier → round ≤ earlier

module _ (k nodes : ℕ) (arcs : List Arc) where
  -- who is left in a round was left before
  falls : (rounds v : ℕ) → peel k nodes arcs (suc rounds) v ≡ true → peel k nodes arcs rounds v ≡ true
  falls rounds v h = (and_parts (peel k nodes arcs rounds v) (leb k (inner_degree arcs (peel k nodes arcs rounds) v)) h).0

  pub falls_to : (rounds later v : ℕ) → rounds ≤ later → peel k nodes arcs later v ≡ true → peel k nodes arcs rounds v ≡ true
  falls_to rounds zero v le h = ap (λ n. peel k nodes arcs n v) (let same : rounds ≡ zero = omega arith in same) ∙ h
  falls_to rounds (suc later) v le h =
      elim (leb_tells rounds later) [
        | inl low ↦ falls_to rounds later v low.1 (falls later v h)
        | inr high ↦ ap (λ n. peel k nodes arcs n v) (let above = high.1 in let same : rounds ≡ suc later = omega arith in same) ∙ h
      ]

  -- who is left is a node
  pub peel_within : (rounds v : ℕ) → peel k nodes arcs rounds v ≡ true → v < nodes
  peel_within rounds v h = leb-true (suc v) nodes (falls_to 0 rounds v (omega arith) h)

  -- where nobody leaves nobody at all does
  quiet_everywhere : (rounds : ℕ) → NobodyLeaves k nodes arcs rounds → (v : ℕ) → peel k nodes arcs (suc rounds) v ≡ peel k nodes arcs rounds v
  quiet_everywhere rounds quiet v =
      elim (leb_tells (suc v) nodes) [
        | inl low ↦ quiet v low.1
        | inr high ↦ neither (peel k nodes arcs (suc rounds) v) (peel k nodes arcs rounds v)
            (λ h. let low = peel_within (suc rounds) v h in let above = high.1 in omega arith)
            (λ h. let low = peel_within rounds v h in let above = high.1 in omega arith)
      ]

  -- and nobody leaves in the round after
  quiet_next : (rounds : ℕ) → NobodyLeaves k nodes arcs rounds → NobodyLeaves k nodes arcs (suc rounds)
  quiet_next rounds quiet v low =
      ap (λ b. b && leb k (inner_degree arcs (peel k nodes arcs (suc rounds)) v)) (quiet v low)
      ∙ ap (λ n. peel k nodes arcs rounds v && leb k n) (inner_degree_agrees arcs (peel k nodes arcs (suc rounds)) (peel k nodes arcs rounds) v (quiet_everywhere rounds quiet))

  -- nor in any later one
  quiet_later : (rounds later : ℕ) → NobodyLeaves k nodes arcs rounds → rounds ≤ later → NobodyLeaves k nodes arcs later
  quiet_later rounds zero quiet le = subst (NobodyLeaves k nodes arcs) (let same : rounds ≡ zero = omega arith in same) quiet
  quiet_later rounds (suc later) quiet le =
      elim (leb_tells rounds later) [
        | inl low ↦ quiet_next later (quiet_later rounds later quiet low.1)
        | inr high ↦ subst (NobodyLeaves k nodes arcs) (let above = high.1 in let same : rounds ≡ suc later = omega arith in same) quiet
      ]

  -- a set that holds its degree is never peeled
  holds_on : (set : ℕ → Bool) → HoldsDegree k nodes arcs set → (rounds v : ℕ) → set v ≡ true → peel k nodes arcs rounds v ≡ true
  holds_on set fact zero v h = le-leb (suc v) nodes (fact.within v h)
  holds_on set fact (suc rounds) v h =
      and_from (peel k nodes arcs rounds v) (leb k (inner_degree arcs (peel k nodes arcs rounds) v)) (holds_on set fact rounds v h)
      (le-leb k (inner_degree arcs (peel k nodes arcs rounds) v)
      (let enough = fact.enough v h in
      let more = inner_degree_grows arcs set (peel k nodes arcs rounds) v (holds_on set fact rounds) in omega arith))

  -- in a round in which nobody leaves each has its degree
  keeps_degree : (rounds v : ℕ) → NobodyLeaves k nodes arcs rounds → peel k nodes arcs rounds v ≡ true → k ≤ inner_degree arcs (peel k nodes arcs rounds) v
  keeps_degree rounds v quiet h =
      leb-true k (inner_degree arcs (peel k nodes arcs rounds) v)
      (and_parts (peel k nodes arcs rounds v) (leb k (inner_degree arcs (peel k nodes arcs rounds) v)) (quiet_everywhere rounds quiet v ∙ h)).1

  -- the search for the first round in which nobody leaves
  rest_from : (fuel rounds most : ℕ) → rounds + fuel ≡ most → members (peel k nodes arcs rounds) nodes ≤ fuel → ((earlier : ℕ) → NobodyLeaves k nodes arcs earlier → rounds ≤ earlier) → Rest k nodes arcs most
  rest_from zero rounds most is few first =
      elim (same_or_fewer (peel k nodes arcs rounds) (peel k nodes arcs (suc rounds)) nodes (falls rounds)) [
        | inl quiet ↦ record { round = rounds; soon = omega arith; quiet = quiet; first = first }
        | inr fewer ↦ absurd (omega arith)
      ]
  rest_from (suc fuel) rounds most is few first =
      elim (same_or_fewer (peel k nodes arcs rounds) (peel k nodes arcs (suc rounds)) nodes (falls rounds)) [
        | inl quiet ↦ record { round = rounds; soon = omega arith; quiet = quiet; first = first }
        | inr fewer ↦ rest_from fuel (suc rounds) most (omega arith) (omega arith) (λ earlier quiet. later earlier quiet fewer)
      ]
    where
      later : (earlier : ℕ) → NobodyLeaves k nodes arcs earlier → members (peel k nodes arcs (suc rounds)) nodes < members (peel k nodes arcs rounds) nodes → suc rounds ≤ earlier
      later earlier quiet fewer =
          let low = first earlier quiet in
          elim (eqb_tells earlier rounds) [
            | inl same ↦ absurd (let as_many = members_same (peel k nodes arcs earlier) (peel k nodes arcs (suc earlier)) nodes quiet in
                let now = ap (λ n. members (peel k nodes arcs n) nodes) same.1 in
                let next = ap (λ n. members (peel k nodes arcs (suc n)) nodes) same.1 in omega arith)
            | inr other ↦ let apart = other.1 in omega arith
          ]

  rest : Rest k nodes arcs nodes
  rest = rest_from nodes 0 nodes (omega arith) (members_within (peel k nodes arcs 0) nodes) (λ earlier quiet. omega arith)

pub peeling_falls : PeelingFalls
peeling_falls k nodes arcs rounds later v le h = falls_to k nodes arcs rounds later v le h

pub peeling_stays : PeelingStays
peeling_stays k nodes arcs rounds zero v quiet le = ap (λ n. peel k nodes arcs n v) (let same : zero ≡ rounds = omega arith in same)
peeling_stays k nodes arcs rounds (suc later) v quiet le =
    elim (leb_tells rounds later) [
      | inl low ↦ quiet_everywhere k nodes arcs later (quiet_later k nodes arcs rounds later quiet low.1) v ∙ peeling_stays k nodes arcs rounds later v quiet low.1
      | inr high ↦ ap (λ n. peel k nodes arcs n v) (let above = high.1 in let same : suc later ≡ rounds = omega arith in same)
    ]

pub still_peel_is_core : StillPeelIsCore
still_peel_is_core k nodes arcs rounds quiet = record {
  holds = record { within = peel_within k nodes arcs rounds; enough = λ v h. keeps_degree k nodes arcs rounds v quiet h };
  largest = λ set fact v h. holds_on k nodes arcs set fact rounds v h;
}

pub peeling_ends : PeelingEnds
peeling_ends k nodes arcs =
    let end = rest k nodes arcs in
    (suc end.round, (let soon = end.soon in omega arith), record { before = end.round; last = refl; quiet = end.quiet; first = end.first })

pub last_peel_is_core : LastPeelIsCore
last_peel_is_core k nodes arcs rounds later count le =
    still_peel_is_core k nodes arcs later (quiet_later k nodes arcs count.before later count.quiet (let last = count.last in omega arith))

pub leaving_ends_at_last : LeavingEndsAtLast
leaving_ends_at_last k nodes arcs rounds before count = (
  λ quiet. let first = count.first before quiet in let last = count.last in omega arith,
  λ le. quiet_later k nodes arcs count.before before count.quiet (let last = count.last in omega arith),
)

pub core_exists : CoreExists
core_exists k nodes arcs =
    let end = rest k nodes arcs in (peel k nodes arcs end.round, still_peel_is_core k nodes arcs end.round end.quiet)

pub core_is_unique : CoreIsUnique
core_is_unique k nodes arcs core other v one two =
    both_ways (core v) (other v) (two.largest core one.holds v) (one.largest other two.holds v)

pub peel_count_is_unique : PeelCountIsUnique
peel_count_is_unique k nodes arcs rounds others one two =
    let below = one.first two.before two.quiet in
    let above = two.first one.before one.quiet in
    let last = one.last in
    let other = two.last in omega arith

pub peeling_order_is_free : PeelingOrderIsFree
peeling_order_is_free k nodes arcs others zero v moved = refl
peeling_order_is_free k nodes arcs others (suc rounds) v moved =
    ap (λ b. b && leb k (inner_degree arcs (peel k nodes arcs rounds) v)) (peeling_order_is_free k nodes arcs others rounds v moved)
    ∙ ap (λ n. peel k nodes others rounds v && leb k n)
    (inner_degree_agrees arcs (peel k nodes arcs rounds) (peel k nodes others rounds) v (λ u. peeling_order_is_free k nodes arcs others rounds u moved)
    ∙ inner_degree_permuted arcs others (peel k nodes others rounds) v moved)

-- nobody leaves in any order
quiet_in_any_order : (k nodes : ℕ) (arcs others : List Arc) (rounds : ℕ) → IsPermutation arcs others → NobodyLeaves k nodes arcs rounds → NobodyLeaves k nodes others rounds
quiet_in_any_order k nodes arcs others rounds moved quiet v low =
    sym (peeling_order_is_free k nodes arcs others (suc rounds) v moved) ∙ quiet v low ∙ peeling_order_is_free k nodes arcs others rounds v moved

pub peel_count_order_is_free : PeelCountOrderIsFree
peel_count_order_is_free k nodes arcs others rounds moved count = record {
  before = count.before;
  last = count.last;
  quiet = quiet_in_any_order k nodes arcs others count.before moved count.quiet;
  first = λ earlier quiet. count.first earlier (quiet_in_any_order k nodes others arcs earlier (IsPermutation-sym arcs others moved) quiet);
}

-- a set holds its degree in any order
holds_in_any_order : (k nodes : ℕ) (arcs others : List Arc) (set : ℕ → Bool) → IsPermutation arcs others → HoldsDegree k nodes arcs set → HoldsDegree k nodes others set
holds_in_any_order k nodes arcs others set moved holds = record {
  within = holds.within;
  enough = λ v h. let enough = holds.enough v h in omega (arith, inner_degree_permuted arcs others set v moved);
}

pub core_order_is_free : CoreOrderIsFree
core_order_is_free k nodes arcs others core moved is_core = record {
  holds = holds_in_any_order k nodes arcs others core moved is_core.holds;
  largest = λ set holds. is_core.largest set (holds_in_any_order k nodes others arcs set (IsPermutation-sym arcs others moved) holds);
}
