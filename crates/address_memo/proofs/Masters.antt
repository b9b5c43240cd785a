-- Ids of masters that are read one after another, and the first that is at fault.
use Rattle.std.proofs.Common.{◌≡◌, ℕ, zero, suc, ◌+◌, ◌<◌, ◌≤◌, true, false, List, [], ◌∷◌, ◌++◌, length, take, get_or, slice_index, slice_get, Option, Some, None, refl, sym, ap, subst, ◌∙◌, arith, inl, inr, length-append}
use Rattle.std.specs.Prelude.{nat_eq, nat_lt}
use Rattle.std.specs.List.{range_with_len}
use Rattle.std.specs.List.Sorted.{IsStrictlyIncreasing}
use Rattle.std.proofs.lemmas.Bool.{eq-eqb, lt-ltb, le-ltb, ltb-true, cases_lt}
use Rattle.std.proofs.lemmas.List.{take_more, take_all, get_or_append_left, get_or-append-add}
use Rattle.std.proofs.lemmas.List.Folds.{list_any_at}
use Rattle.std.proofs.lemmas.Option.{slice_get_within, get_or_from_slice_get, slice_get-get_or}
use Rattle.graph_division.specs.Shares.{Share, nodes_of, masters_here}
use Rattle.list_laws.specs.Among.{is_among}
use Rattle.address_memo.specs.declared.memo_fault.MemoFault.{MemoFault}
use Rattle.address_memo.specs.declared.memo_fault.MemoFault.TheVariants.{NotRising, NotMine}
use Rattle.address_memo.specs.Memos.{Proxies, AreProxies, AreMasters}
use Rattle.address_memo.specs.Checks.{AreMasterIds, rises_at, id_fault_at, or_fault, first_fault, ids_fault}
use Rattle.address_memo.proofs.Mirrors.{masters_rise, masters_known, rise_by_place}

-- ---- the first fault of a range of places

pub first_fault_at : (fault_at : ℕ → Option MemoFault) (a n i : ℕ) (fault : MemoFault) → ((k : ℕ) → a ≤ k → k < a + i → fault_at k ≡ None) → i < n → fault_at (a + i) ≡ Some fault → first_fault fault_at (range_with_len a n) ≡ Some fault
first_fault_at fault_at a zero i fault before within here = absurd (omega arith)
first_fault_at fault_at a (suc n) zero fault before within here =
    let place : a + 0 ≡ a = omega arith in
    ap (λ f. or_fault f (first_fault fault_at (range_with_len (a + 1) n))) (sym (ap fault_at place) ∙ here)
first_fault_at fault_at a (suc n) (suc i) fault before within here =
    let place : a + 1 + i ≡ a + suc i = omega arith in
    ap (λ f. or_fault f (first_fault fault_at (range_with_len (a + 1) n))) (before a (omega arith) (omega arith))
    ∙ first_fault_at fault_at (a + 1) n i fault (λ k l h. before k (omega arith) (omega arith)) (omega arith) (ap fault_at place ∙ here)

pub first_fault_none : (fault_at : ℕ → Option MemoFault) (a n : ℕ) → ((k : ℕ) → a ≤ k → k < a + n → fault_at k ≡ None) → first_fault fault_at (range_with_len a n) ≡ None
first_fault_none fault_at a zero none = refl
first_fault_none fault_at a (suc n) none =
    ap (λ f. or_fault f (first_fault fault_at (range_with_len (a + 1) n))) (none a (omega arith) (omega arith))
    ∙ first_fault_none fault_at (a + 1) n (λ k l h. none k (omega arith) (omega arith))

-- ---- the id at a place

-- it is above the one before it, and known
pub record Passes (mine ids : List ℕ) (place : ℕ) : Type 0 where
  pub rises : rises_at ids place ≡ true
  pub known : is_among mine (slice_index ids place) ≡ true

pub passes_unfaulted : (mine : List ℕ) (first : ℕ) (ids : List ℕ) (place : ℕ) → Passes mine ids place → id_fault_at mine first ids place ≡ None
passes_unfaulted mine first ids place passes = rw (passes.rises, passes.known) refl

-- what the id at a place has to be at least, to rise
abbrev pub next_low : List ℕ → (place : ℕ) → ℕ
next_low ids zero = 0
next_low ids (suc place) = slice_index ids place + 1

pub rises_from : (ids : List ℕ) (place low : ℕ) → low ≡ next_low ids place → low ≤ slice_index ids place → rises_at ids place ≡ true
rises_from ids zero low is_low high = refl
rises_from ids (suc place) low is_low high = lt-ltb (slice_index ids place) (slice_index ids (suc place)) (omega arith)

pub falls_from : (ids : List ℕ) (place low : ℕ) → low ≡ next_low ids place → slice_index ids place < low → rises_at ids place ≡ false
falls_from ids zero low is_low less = absurd (omega arith)
falls_from ids (suc place) low is_low less = le-ltb (slice_index ids place) (slice_index ids (suc place)) (omega arith)

-- ---- ids that are read

-- the ids of the places before i are read: each passes and has its local number, and low is one above the last
pub record IsReadTo (share : Share) (ids locals globals : List ℕ) (i low : ℕ) : Type 0 where
  pub passed : (k : ℕ) → k < i → Passes (masters_here share) ids k
  pub is_low : low ≡ next_low ids i
  pub many : i ≤ low
  pub within : low ≤ nodes_of share
  pub read : globals ≡ take i ids
  pub numbered : length locals ≡ i
  pub found : (k : ℕ) → k < i → slice_get (masters_here share) (slice_index locals k) ≡ Some (slice_index ids k)

pub nothing_read : (share : Share) (ids : List ℕ) → IsReadTo share ids [] [] 0 0
nothing_read share ids = record {
  passed = λ k before. absurd (omega arith);
  is_low = refl;
  many = omega arith;
  within = omega arith;
  read = refl;
  numbered = refl;
  found = λ k before. absurd (omega arith);
}

-- what stands at a place in a list is in it
pub among_at : (xs : List ℕ) (k x : ℕ) → slice_get xs k ≡ Some x → is_among xs x ≡ true
among_at xs k x at = list_any_at (λ other. nat_eq other x) xs k x (slice_get_within xs k x at) (eq-eqb (get_or xs k x) x (get_or_from_slice_get xs k x x at))

module _ (share : Share) (ids locals globals : List ℕ) (i low id lid : ℕ) (so_far : IsReadTo share ids locals globals i low) (here : i < length ids) (is : id ≡ slice_index ids i) where
  -- all before are without fault
  before : (first : ℕ) (k : ℕ) → 0 ≤ k → k < 0 + i → id_fault_at (masters_here share) first ids k ≡ None
  before first k l h = passes_unfaulted (masters_here share) first ids k (so_far.passed k (omega arith))

  pub fault_falls : (first : ℕ) → id < low → ids_fault (masters_here share) first ids ≡ Some (NotRising (first + i))
  unfolding ids_fault
  fault_falls first less =
      let place : 0 + i ≡ i = omega arith in
      let falls : rises_at ids i ≡ false = falls_from ids i low so_far.is_low (omega arith) in
      first_fault_at (id_fault_at (masters_here share) first ids) 0 (length ids) i (NotRising (first + i)) (before first) here (ap (id_fault_at (masters_here share) first ids) place ∙ rw falls refl)

  pub fault_unknown : (first : ℕ) → low ≤ id → is_among (masters_here share) id ≡ false → ids_fault (masters_here share) first ids ≡ Some (NotMine id)
  unfolding ids_fault
  fault_unknown first high unknown =
      let place : 0 + i ≡ i = omega arith in
      let rises : rises_at ids i ≡ true = rises_from ids i low so_far.is_low (omega arith) in
      let elsewhere : is_among (masters_here share) (slice_index ids i) ≡ false = ap (is_among (masters_here share)) (sym is) ∙ unknown in
      first_fault_at (id_fault_at (masters_here share) first ids) 0 (length ids) i (NotMine id) (before first) here
      (ap (id_fault_at (masters_here share) first ids) place ∙ rw (rises, elsewhere) (ap (λ v. Some (NotMine v)) (sym is)))

  -- the id is a vertex
  pub id_known : slice_get (masters_here share) lid ≡ Some id → id < nodes_of share
  id_known at =
      let within = slice_get_within (masters_here share) lid id at in
      let same : get_or (masters_here share) lid 0 ≡ id = get_or_from_slice_get (masters_here share) lid id 0 at in
      let known : get_or (masters_here share) lid 0 < nodes_of share = masters_known share lid 0 within in
      omega arith

  pub one_more : low ≤ id → slice_get (masters_here share) lid ≡ Some id → IsReadTo share ids (locals ++ lid ∷ []) (globals ++ id ∷ []) (i + 1) (id + 1)
  one_more high at = record {
    passed = λ k below. elim (cases_lt k i) [
      | inl less ↦ so_far.passed k less
      | inr last ↦ let same : i ≡ k = omega arith in subst (Passes (masters_here share) ids) same (record {
        rises = rises_from ids i low so_far.is_low (omega arith);
        known = ap (is_among (masters_here share)) (sym is) ∙ among_at (masters_here share) lid id at;
      })
    ];
    is_low = let next : suc i ≡ i + 1 = omega arith in ap (λ v. v + 1) is ∙ ap (next_low ids) next;
    many = let many = so_far.many in omega arith;
    within = let known = id_known at in omega arith;
    read = ap (λ l. l ++ id ∷ []) so_far.read ∙ ap (λ v. take i ids ++ v ∷ []) is ∙ sym (take_more ids i 0 here);
    numbered = let numbered = so_far.numbered in omega (arith, length-append locals (lid ∷ []));
    found = λ k below. elim (cases_lt k i) [
      | inl less ↦
          let shown : get_or (locals ++ lid ∷ []) k 0 ≡ get_or locals k 0 = get_or_append_left locals (lid ∷ []) 0 k (let numbered = so_far.numbered in omega arith) in
          ap (slice_get (masters_here share)) shown ∙ so_far.found k less
      | inr last ↦
          let same : k ≡ i = omega arith in
          let numbered = so_far.numbered in
          let place : k ≡ length locals + 0 = omega arith in
          let shown : get_or (locals ++ lid ∷ []) k 0 ≡ lid = ap (λ n. get_or (locals ++ lid ∷ []) n 0) place ∙ get_or-append-add locals (lid ∷ []) 0 0 in
          ap (slice_get (masters_here share)) shown ∙ at ∙ ap (λ v. Some v) (is ∙ ap (slice_index ids) (sym same))
    ];
  }

-- ---- ids that are all read

module _ (share : Share) (ids locals globals : List ℕ) (i low : ℕ) (all : IsReadTo share ids locals globals i low) (end : length ids ≤ i) (enough : i ≤ length ids) where
  whole : i ≡ length ids
  whole = omega arith

  pub read_whole : globals ≡ ids
  read_whole = all.read ∙ take_all i ids end

  pub ids_rise : IsStrictlyIncreasing ids
  ids_rise k within =
      let next : suc k ≡ k + 1 = omega arith in
      let passes = (all.passed (k + 1) (omega arith)).rises in
      let up : nat_lt (slice_index ids k) (slice_index ids (suc k)) ≡ true = ap (rises_at ids) next ∙ passes in
      let less = ltb-true (slice_index ids k) (slice_index ids (suc k)) up in
      let same = ap (slice_index ids) next in
      omega arith

  locals_rise : IsStrictlyIncreasing locals
  locals_rise k within =
      let numbered = all.numbered in
      let here = all.found k (omega arith) in
      let there = all.found (k + 1) (omega arith) in
      let up = ids_rise k (omega arith) in
      let low_place = slice_get_within (masters_here share) (slice_index locals k) (slice_index ids k) here in
      let low_is = get_or_from_slice_get (masters_here share) (slice_index locals k) (slice_index ids k) 0 here in
      let high_is = get_or_from_slice_get (masters_here share) (slice_index locals (k + 1)) (slice_index ids (k + 1)) 0 there in
      elim (cases_lt (slice_index locals k) (slice_index locals (k + 1))) [
        | inl less ↦ less
        | inr not_less ↦ elim (cases_lt (slice_index locals (k + 1)) (slice_index locals k)) [
          | inl wrong ↦ let falls = rise_by_place (masters_here share) (slice_index locals (k + 1)) (slice_index locals k) (masters_rise share) wrong low_place in absurd (omega arith)
          | inr not_wrong ↦ let same : slice_index locals k ≡ slice_index locals (k + 1) = omega arith in let equal = ap (λ n. get_or (masters_here share) n 0) same in absurd (omega arith)
        ]
      ]

  pub are_proxies : AreProxies (record { locals = locals; globals = globals })
  are_proxies = record {
    as_many = all.numbered ∙ whole ∙ sym (ap length read_whole);
    locals_rise = locals_rise;
    globals_rise = subst IsStrictlyIncreasing (sym read_whole) ids_rise;
  }

  pub are_masters : AreMasters share (record { locals = locals; globals = globals })
  are_masters = record {
    is_list = are_proxies;
    are_masters = λ k within.
        let long = ap length read_whole in
        let last = whole in
        let here : k < length ids = omega arith in
        let same : slice_index ids k ≡ slice_index globals k = ap (λ (l : List ℕ). slice_index l k) (sym read_whole) in
        all.found k (omega arith) ∙ ap (λ v. Some v) same ∙ sym (slice_get-get_or globals k 0 within);
  }

  pub few_read : length globals ≤ nodes_of share
  few_read = let long = ap length read_whole in let many = all.many in let within = all.within in omega (arith, whole)

-- ---- lists of masters

pub ids_of_masters : (share : Share) (list : Proxies) → AreMasters share list → AreMasterIds share list.globals
ids_of_masters share list are = record {
  rise = are.is_list.globals_rise;
  are_mine = λ k d within.
      let at : slice_get (masters_here share) (slice_index list.locals k) ≡ Some (get_or list.globals k d) = are.are_masters k within ∙ slice_get-get_or list.globals k d within in
      among_at (masters_here share) (slice_index list.locals k) (get_or list.globals k d) at;
}

rises_at_every : (ids : List ℕ) (place : ℕ) → IsStrictlyIncreasing ids → place < length ids → rises_at ids place ≡ true
rises_at_every ids zero rise within = refl
rises_at_every ids (suc place) rise within =
    let next : place + 1 ≡ suc place = omega arith in
    let up : slice_index ids place < slice_index ids (place + 1) = rise place (omega arith) in
    let same = ap (slice_index ids) next in
    lt-ltb (slice_index ids place) (slice_index ids (suc place)) (omega arith)

-- rising ids of masters have no fault
pub no_fault : (share : Share) (first : ℕ) (ids : List ℕ) → AreMasterIds share ids → ids_fault (masters_here share) first ids ≡ None
unfolding ids_fault
no_fault share first ids are =
    first_fault_none (id_fault_at (masters_here share) first ids) 0 (length ids)
    (λ k l h. passes_unfaulted (masters_here share) first ids k (record { rises = rises_at_every ids k are.rise (omega arith); known = are.are_mine k 0 (omega arith) }))
