-- One tail more is followed: what its arcs bring, with what came before, is what all of these bring.
use Rattle.std.proofs.Common.{◌≡◌, ◌≢◌, ℕ, ◌<◌, Bool, true, false, cond, ◌&&◌, ◌||◌, ◌==◌, List, [], ◌∷◌, length, map, get_or, refl, sym, ap, subst, ◌∙◌, arith, inl, inr, ltb, ◌+◌}
use Rattle.std.specs.List.{All, AllByRecursion, filter}
use Rattle.std.proofs.lemmas.List.Elements.{recursion_from_All, All-weaker, All-filter}
use Rattle.std.proofs.lemmas.Bool.{true≢false, eqb-true, eq-eqb, ne_eqb, and_right, cases_lt, cases_eq, lt-ltb, le-ltb}
use Rattle.list_laws.specs.Members.{has_member, IsLeastMemberSince, HasNoMemberSince}
use Rattle.graph_model.specs.Arcs.{Arc, arcs_of}
use Rattle.graph_model.specs.declared.edge.Way.{Way}
use Rattle.graph_division.specs.Shares.{Share, IsShare, proxies_here}
use Rattle.proxy_graph.specs.Heads.{vertex_at, lid_of, heads_from}
use Rattle.reduce_laws.specs.ReductionLaws.{Reducer, ReductionLaws, combined}
use Rattle.reduce_laws.specs.ProgramLaws.{Steps, ProgramLaws}
use Rattle.reduce_laws.proofs.Combining.{combined-filter, combined_both, combined_same, combined_is_value, combined_identities, value_or_identity, combine_identity}
use Rattle.arc_push.specs.Pushing.{brought_by}
use Rattle.arc_push.proofs.Here.{IsHere, arcs_here, vertex_test}

-- combining the images of a list
combined-map : {Item A B : Type 0} (reducer : Reducer Item) (item : B → Item) (f : A → B) (xs : List A) → combined reducer item (map f xs) ≡ combined reducer (λ x. item (f x)) xs
combined-map reducer item f [] = refl
combined-map reducer item f (x ∷ xs) = ap (reducer.combine (item (f x))) (combined-map reducer item f xs)

-- ---- which tails were passed

and_true : (b : Bool) → (b && true) ≡ b
and_true true = refl
and_true false = refl

-- before the first none
pub none_below : (awake : List Bool) (k : ℕ) → (has_member awake k && ltb k 0) ≡ false
none_below awake k = and_right (has_member awake k) (ltb k 0) (le-ltb k 0 (omega arith))

-- behind the last all
pub all_below : (awake : List Bool) (at : ℕ) → HasNoMemberSince awake at → (k : ℕ) → (has_member awake k && ltb k at) ≡ has_member awake k
all_below awake at none k = elim (cases_lt k at) [
  | inl low ↦ ap (λ b. has_member awake k && b) (lt-ltb k at low) ∙ and_true (has_member awake k)
  | inr high ↦ ap (λ b. b && ltb k at) (none k high) ∙ sym (none k high)
]

-- the next member is passed, and no other
pub one_below : (awake : List Bool) (at tail : ℕ) → IsLeastMemberSince awake at tail → (k : ℕ) → (has_member awake k && ltb k (tail + 1)) ≡ ((has_member awake k && ltb k at) || k == tail)
one_below awake at tail next k = elim (cases_eq k tail) [
  | inl same ↦ ap (λ b. b && ltb k (tail + 1)) (ap (has_member awake) same ∙ next.member) ∙ lt-ltb k (tail + 1) (omega arith)
      ∙ sym (ap (λ b. (has_member awake k && ltb k at) || b) (eq-eqb k tail same) ∙ or_true (has_member awake k && ltb k at))
  | inr apart ↦ before_or_behind apart ∙ sym (ap (λ b. (has_member awake k && ltb k at) || b) (ne_eqb k tail apart) ∙ or_false (has_member awake k && ltb k at))
]
  where
    or_true : (b : Bool) → (b || true) ≡ true
    or_true true = refl
    or_true false = refl

    or_false : (b : Bool) → (b || false) ≡ b
    or_false true = refl
    or_false false = refl

    before_or_behind : k ≢ tail → (has_member awake k && ltb k (tail + 1)) ≡ (has_member awake k && ltb k at)
    before_or_behind apart = elim (cases_lt k at) [
      | inl low ↦ ap (λ b. has_member awake k && b) (lt-ltb k (tail + 1) (let since = next.since in omega arith) ∙ sym (lt-ltb k at low))
      | inr high ↦ elim (cases_lt k tail) [
        | inl between ↦ ap (λ b. b && ltb k (tail + 1)) (next.least k high between) ∙ sym (ap (λ b. b && ltb k at) (next.least k high between))
        | inr behind ↦ ap (λ b. has_member awake k && b) (le-ltb k (tail + 1) (omega arith) ∙ sym (le-ltb k at high))
      ]
    ]

-- ---- what their arcs bring

-- what goes along an arc
abbrev pub sent : {Item State Shown : Type 0} → Steps Item State Shown → Share → List Shown → Shown → Arc → Item
sent steps share shown none arc = steps.along (get_or shown (lid_of share arc.tail) none) arc.weight

-- whether an arc leads to a vertex from a tail that counts
abbrev pub counts : Share → (ℕ → Bool) → ℕ → Arc → Bool
counts share p v arc = arc.head == v && p (lid_of share arc.tail)

-- what the arcs from the tails that count bring to a vertex
abbrev pub gained_by : {Item State Shown : Type 0} → Reducer Item → Steps Item State Shown → Share → Way → List Shown → (ℕ → Bool) → Shown → ℕ → Item
gained_by reducer steps share way shown p none v = combined reducer (sent steps share shown none) (filter (counts share p v) (arcs_of way share.edges))

-- whether a tail is awake and was passed
abbrev pub awake_below : List Bool → ℕ → ℕ → Bool
awake_below awake at k = has_member awake k && ltb k at

-- what the arcs from the tails that were passed bring to a proxy
abbrev pub gained_below : {Item State Shown : Type 0} → Reducer Item → Steps Item State Shown → Share → Way → List Shown → List Bool → ℕ → Shown → ℕ → Item
gained_below reducer steps share way shown awake at none l = gained_by reducer steps share way shown (awake_below awake at) none (vertex_at share l)

module _ {Item : Type 0} {IsItem : Item → Type 0} {reducer : Reducer Item} (laws : ReductionLaws IsItem reducer) where
  -- what goes along an arc counts where its tail counted before or is the one that is added
  pub counts_once : (h before here : Bool) (x y : Item) → IsItem x → (here ≡ true → (before ≡ false) × (x ≡ y))
      → reducer.combine (cond (h && before) x reducer.identity) (cond here (cond h y reducer.identity) reducer.identity) ≡ cond (h && (before || here)) x reducer.identity
  counts_once false before true x y hx once = laws.combine-identity reducer.identity laws.identity_is_value
  counts_once false before false x y hx once = laws.combine-identity reducer.identity laws.identity_is_value
  counts_once true true true x y hx once = absurd (true≢false (once refl).0)
  counts_once true true false x y hx once = combine_identity laws x hx
  counts_once true false true x y hx once = ap (reducer.combine reducer.identity) (sym (once refl).1) ∙ laws.combine-identity x hx
  counts_once true false false x y hx once = laws.combine-identity reducer.identity laws.identity_is_value

module _ {Item State Shown : Type 0} {IsItem : Item → Type 0} {IsShown : Shown → Type 0} {IsState : State → Type 0} {reducer : Reducer Item} {steps : Steps Item State Shown} (laws : ReductionLaws IsItem reducer) (program : ProgramLaws IsItem IsShown IsState reducer steps)
    (way : Way) (share : Share) (is : IsShare share) where
  abbrev arcs : List Arc
  arcs = arcs_of way share.edges

  -- what holds of arcs whose ends have proxies here holds of all
  each_arc : (P : Arc → Type 0) → ((arc : Arc) → IsHere share arc → P arc) → AllByRecursion P arcs
  each_arc P fact = recursion_from_All P arcs (All-weaker (IsHere share) P fact arcs (arcs_here share is way))

  module _ (shown : List Shown) (fit : length shown ≡ length (proxies_here share)) (are : All IsShown shown) where
    sent_value : (none : Shown) (arc : Arc) → IsHere share arc → IsItem (sent steps share shown none arc)
    sent_value none arc here =
        program.along_is_value (get_or shown (lid_of share arc.tail) none) arc.weight (are (lid_of share arc.tail) none (let within = here.tail.within in omega arith)) here.weight_fits

    pub gained_value : (p : ℕ → Bool) (none : Shown) (v : ℕ) → IsItem (gained_by reducer steps share way shown p none v)
    gained_value p none v =
        combined_is_value laws (sent steps share shown none) (filter (counts share p v) arcs)
        (recursion_from_All (λ arc. IsItem (sent steps share shown none arc)) (filter (counts share p v) arcs)
        (All-filter (counts share p v) (λ arc. IsItem (sent steps share shown none arc)) arcs
        (All-weaker (IsHere share) (λ arc. IsItem (sent steps share shown none arc)) (sent_value none) arcs (arcs_here share is way))))

    masked : (ℕ → Bool) → Shown → ℕ → Arc → Item
    masked p none v arc = cond (counts share p v arc) (sent steps share shown none arc) reducer.identity

    gained_masked : (p : ℕ → Bool) (none : Shown) (v : ℕ) → gained_by reducer steps share way shown p none v ≡ combined reducer (masked p none v) arcs
    unfolding masked
    gained_masked p none v = combined-filter laws (sent steps share shown none) (counts share p v) arcs (each_arc (λ arc. IsItem (sent steps share shown none arc)) (sent_value none))

    -- which tails count may be said in another way
    pub counts_otherwise : (p q : ℕ → Bool) → ((k : ℕ) → p k ≡ q k) → (none : Shown) (v : ℕ) → gained_by reducer steps share way shown p none v ≡ gained_by reducer steps share way shown q none v
    unfolding masked
    counts_otherwise p q agree none v =
        gained_masked p none v
        ∙ combined_same laws (masked p none v) (masked q none v) arcs
        (each_arc (λ arc. masked p none v arc ≡ masked q none v arc) (λ arc here. ap (λ b. cond (arc.head == v && b) (sent steps share shown none arc) reducer.identity) (agree (lid_of share arc.tail))))
        ∙ sym (gained_masked q none v)

    -- where no tail counts nothing is brought
    pub none_count : (p : ℕ → Bool) → ((k : ℕ) → p k ≡ false) → (none : Shown) (v : ℕ) → gained_by reducer steps share way shown p none v ≡ reducer.identity
    unfolding masked
    none_count p asleep none v =
        gained_masked p none v
        ∙ combined_identities laws (masked p none v) arcs
        (each_arc (λ arc. masked p none v arc ≡ reducer.identity) (λ arc here. ap (λ b. cond b (sent steps share shown none arc) reducer.identity) (and_right (arc.head == v) (p (lid_of share arc.tail)) (asleep (lid_of share arc.tail)))))

  -- ---- one tail

  module _ (y : Shown) (is_shown : IsShown y) (tail l : ℕ) where
    from_tail : Arc → Item
    from_tail arc = cond (arc.tail == vertex_at share tail) (cond (lid_of share arc.head == l) (steps.along y arc.weight) reducer.identity) reducer.identity

    along_value : (arc : Arc) → IsHere share arc → IsItem (cond (lid_of share arc.head == l) (steps.along y arc.weight) reducer.identity)
    along_value arc here = value_or_identity laws (lid_of share arc.head == l) (steps.along y arc.weight) (program.along_is_value y arc.weight is_shown here.weight_fits)

    brought_masked : brought_by reducer steps y (heads_from way share tail) l ≡ combined reducer from_tail arcs
    unfolding from_tail
    brought_masked =
        combined-map reducer (λ (arc : ℕ × ℕ). cond (arc.0 == l) (steps.along y arc.1) reducer.identity) (λ (arc : Arc). (lid_of share arc.head, arc.weight)) (filter (λ arc. arc.tail == vertex_at share tail) arcs)
        ∙ combined-filter laws (λ arc. cond (lid_of share arc.head == l) (steps.along y arc.weight) reducer.identity) (λ arc. arc.tail == vertex_at share tail) arcs
        (each_arc (λ arc. IsItem (cond (lid_of share arc.head == l) (steps.along y arc.weight) reducer.identity)) along_value)

    from_tail_value : (arc : Arc) → IsHere share arc → IsItem (from_tail arc)
    unfolding from_tail
    from_tail_value arc here = value_or_identity laws (arc.tail == vertex_at share tail) (cond (lid_of share arc.head == l) (steps.along y arc.weight) reducer.identity) (along_value arc here)

  module _ (shown : List Shown) (fit : length shown ≡ length (proxies_here share)) (are : All IsShown shown) where
    -- one tail more
    module _ (p q : ℕ → Bool) (tail : ℕ) (y : Shown) (is_tail : tail < length (proxies_here share)) (shows : (none : Shown) → get_or shown tail none ≡ y) (new : p tail ≡ false) (both : (k : ℕ) → q k ≡ (p k || k == tail)) (none : Shown) (l : ℕ) (is_head : l < length (proxies_here share)) where
      y_shown : IsShown y
      y_shown = let P : Shown → Type 0 = IsShown in subst P (shows none) (are tail none (omega arith))

      arc_more : (arc : Arc) → IsHere share arc → reducer.combine (masked shown fit are p none (vertex_at share l) arc) (from_tail y y_shown tail l arc) ≡ masked shown fit are q none (vertex_at share l) arc
      unfolding masked from_tail
      arc_more arc here =
          let t = lid_of share arc.tail in
          let h = lid_of share arc.head == l in
          ap (λ b. reducer.combine (cond (b && p t) (sent steps share shown none arc) reducer.identity) (cond (arc.tail == vertex_at share tail) (cond h (steps.along y arc.weight) reducer.identity) reducer.identity)) (vertex_test share arc.head l here.head is_head)
          ∙ ap (λ b. reducer.combine (cond (h && p t) (sent steps share shown none arc) reducer.identity) (cond b (cond h (steps.along y arc.weight) reducer.identity) reducer.identity)) (vertex_test share arc.tail tail here.tail is_tail)
          ∙ counts_once laws h (p t) (t == tail) (sent steps share shown none arc) (steps.along y arc.weight) (sent_value shown fit are none arc here)
          (λ at. let is : t ≡ tail = eqb-true t tail at in (ap p is ∙ new, ap (λ x. steps.along x arc.weight) (ap (λ k. get_or shown k none) is ∙ shows none)))
          ∙ ap (λ b. cond (h && b) (sent steps share shown none arc) reducer.identity) (sym (both t))
          ∙ ap (λ b. cond (b && q t) (sent steps share shown none arc) reducer.identity) (sym (vertex_test share arc.head l here.head is_head))

      pub tail_more : reducer.combine (gained_by reducer steps share way shown p none (vertex_at share l)) (brought_by reducer steps y (heads_from way share tail) l) ≡ gained_by reducer steps share way shown q none (vertex_at share l)
      unfolding masked
      tail_more =
          let v = vertex_at share l in
          ap (λ z. reducer.combine z (brought_by reducer steps y (heads_from way share tail) l)) (gained_masked shown fit are p none v)
          ∙ ap (reducer.combine (combined reducer (masked shown fit are p none v) arcs)) (brought_masked y y_shown tail l)
          ∙ sym (combined_both laws (masked shown fit are p none v) (from_tail y y_shown tail l) arcs
          (each_arc (λ arc. IsItem (masked shown fit are p none v arc)) (λ arc here. value_or_identity laws (counts share p v arc) (sent steps share shown none arc) (sent_value shown fit are none arc here)))
          (each_arc (λ arc. IsItem (from_tail y y_shown tail l arc)) (from_tail_value y y_shown tail l)))
          ∙ combined_same laws (λ arc. reducer.combine (masked shown fit are p none v arc) (from_tail y y_shown tail l arc)) (masked shown fit are q none v) arcs
          (each_arc (λ arc. reducer.combine (masked shown fit are p none v arc) (from_tail y y_shown tail l arc) ≡ masked shown fit are q none v arc) arc_more)
          ∙ sym (gained_masked shown fit are q none v)
