-- The proxies of a host by local number: masters first, then mirrors by the hosts of their masters.
use Rattle.std.proofs.Common.{◌≡◌, ◌≢◌, ℕ, ◌+◌, ◌-◌, ◌<◌, ◌≤◌, Bool, true, false, not, ◌&&◌, ◌||◌, ◌==◌, List, ◌++◌, length, map, get_or, slice_index, slice_get, Some, refl, sym, ap, subst, ◌∙◌, arith, inl, inr, length-append}
use Rattle.std.specs.Prelude.{nat_eq}
use Rattle.std.specs.List.{All, filter, range_with_len, slice_index_or}
use Rattle.std.specs.List.Sorted.{IsStrictlyIncreasing}
use Rattle.std.proofs.lemmas.Bool.{eq-eqb, ne_eqb, eqb-true, eqb-false, cases_lt, true≢false}
use Rattle.std.proofs.lemmas.List.{ext_get_or, get_or_append_left, get_or-append-add, get_or_default}
use Rattle.std.proofs.lemmas.List.Elements.{filter_agree, filter_passes, All-filter}
use Rattle.std.proofs.lemmas.List.Folds.{list_any_none, list_any-append}
use Rattle.std.proofs.lemmas.List.FromFn.{length-range_with_len, length-map-range_with_len, get_or-map-range_with_len}
use Rattle.std.proofs.lemmas.List.Kept.{IsStrictlyIncreasing-filter, AllPairs-from_increasing}
use Rattle.std.proofs.lemmas.List.Sums.{position_or_len_is}
use Rattle.std.proofs.lemmas.Option.{slice_get_within, get_or_from_slice_get, same_Some}
use Rattle.list_laws.specs.Among.{is_among}
use Rattle.list_laws.proofs.Places.{element_at, slice_get-append_left}
use Rattle.graph_model.specs.declared.edge.Way.{Way}
use Rattle.graph_model.specs.declared.edge.Way.TheVariants.{Outward}
use Rattle.graph_division.specs.Lists.{is_mirror}
use Rattle.graph_division.specs.Shares.{Share, IsShare, nodes_of, seen, masters_here, mirrors_here, proxies_here}
use Rattle.graph_division.proofs.PrunedLists.{range_rises, picked_below}
use Rattle.graph_division.proofs.Partitions.{mirrors_are_of_no_way}
use Rattle.proxy_graph.specs.Heads.{vertex_at, lid_of}
use Rattle.address_memo.specs.Legs.{is_taken, own_of}
use Rattle.address_memo.specs.Runs.{owner_at, IsStartOf}
use Rattle.address_memo.specs.declared.leg.Leg.{Leg}
use Rattle.address_memo.specs.declared.leg.Leg.TheVariants.{Reduce, Spread}
use Rattle.address_memo.proofs.Filters.{All_range, filter_range_part, filter-map, filter-filter, map_back, length_picked}

-- the host of a vertex's master
abbrev owner : Share → (v : ℕ) → ℕ
owner share v = slice_index_or share.masters v 0

pub masters_rise : (share : Share) → IsStrictlyIncreasing (masters_here share)
masters_rise share = IsStrictlyIncreasing-filter (λ v. owner share v == share.host) (range_with_len 0 (nodes_of share)) (range_rises 0 (nodes_of share))

pub mirrors_rise : (share : Share) → IsStrictlyIncreasing (mirrors_here share)
mirrors_rise share = IsStrictlyIncreasing-filter (is_mirror (seen Outward share) share.host) (range_with_len 0 (nodes_of share)) (range_rises 0 (nodes_of share))

-- numbers that rise, by place
pub rise_by_place : (xs : List ℕ) (i j : ℕ) → IsStrictlyIncreasing xs → i < j → j < length xs → get_or xs i 0 < get_or xs j 0
rise_by_place xs i j rise before within = AllPairs-from_increasing xs rise i j 0 before within

pub masters_known : (share : Share) → All (λ v. v < nodes_of share) (masters_here share)
masters_known share = picked_below (nodes_of share) (λ v. owner share v == share.host)

pub mirrors_known : (share : Share) → All (λ v. v < nodes_of share) (mirrors_here share)
mirrors_known share = picked_below (nodes_of share) (is_mirror (seen Outward share) share.host)

-- a master's vertex is this host's
pub master_owned : (share : Share) (k : ℕ) → k < length (masters_here share) → owner share (slice_index (masters_here share) k) ≡ share.host
master_owned share k within =
    eqb-true (owner share (slice_index (masters_here share) k)) share.host (filter_passes (λ v. owner share v == share.host) (range_with_len 0 (nodes_of share)) k 0 within)

not_true : (b c : Bool) → (not b && c) ≡ true → b ≡ false
not_true true c h = absurd (true≢false (sym h))
not_true false c h = refl

-- a mirror's vertex is another host's
pub mirror_owned : (share : Share) (k : ℕ) → k < length (mirrors_here share) → owner share (slice_index (mirrors_here share) k) ≢ share.host
mirror_owned share k within =
    eqb-false (owner share (slice_index (mirrors_here share) k)) share.host
    (not_true (owner share (slice_index (mirrors_here share) k) == share.host) _ (filter_passes (is_mirror (seen Outward share) share.host) (range_with_len 0 (nodes_of share)) k 0 within))

-- ---- by local number

pub length_proxies : (share : Share) → length (proxies_here share) ≡ length (masters_here share) + length (mirrors_here share)
length_proxies share = length-append (masters_here share) (mirrors_here share)

pub vertex_of_master : (share : Share) (k : ℕ) → k < length (masters_here share) → vertex_at share k ≡ slice_index (masters_here share) k
vertex_of_master share k within = get_or_append_left (masters_here share) (mirrors_here share) 0 k within

pub vertex_of_mirror : (share : Share) (lid : ℕ) → length (masters_here share) ≤ lid → vertex_at share lid ≡ slice_index (mirrors_here share) (lid - length (masters_here share))
vertex_of_mirror share lid since =
    let place : lid ≡ length (masters_here share) + (lid - length (masters_here share)) = omega arith in
    ap (λ k. get_or (masters_here share ++ mirrors_here share) k 0) place
    ∙ get_or-append-add (masters_here share) (mirrors_here share) (lid - length (masters_here share)) 0

-- the owners of mirrors do not fall
pub owners_in_order : (share : Share) → IsShare share → (i j : ℕ) → length (masters_here share) ≤ i → i ≤ j → j < length (proxies_here share) → owner_at share i ≤ owner_at share j
owners_in_order share is i j since order within =
    let m = length (masters_here share) in
    let long = length_proxies share in
    let last : j - m < length (mirrors_here share) = omega arith in
    let known : slice_index (mirrors_here share) (j - m) < nodes_of share = mirrors_known share (j - m) 0 last in
    let rise : slice_index (mirrors_here share) (i - m) ≤ slice_index (mirrors_here share) (j - m)
    = elim (cases_lt (i - m) (j - m)) [
      | inl less ↦ let up = rise_by_place (mirrors_here share) (i - m) (j - m) (mirrors_rise share) less last in omega (arith, up)
      | inr not_less ↦ let same : i - m ≡ j - m = omega arith in let equal = ap (slice_index (mirrors_here share)) same in omega (arith, equal)
    ] in
    let climbs : owner share (slice_index (mirrors_here share) (i - m)) ≤ owner share (slice_index (mirrors_here share) (j - m))
    = is.contiguous (slice_index (mirrors_here share) (i - m)) (slice_index (mirrors_here share) (j - m)) 0 rise known in
    subst (λ v. owner share v ≤ owner_at share j) (sym (vertex_of_mirror share i since))
    (subst (λ v. owner share (slice_index (mirrors_here share) (i - m)) ≤ owner share v) (sym (vertex_of_mirror share j (omega arith))) climbs)

-- the mirrors by local number
pub mirrors_by_lid : (share : Share) → map (vertex_at share) (range_with_len (length (masters_here share)) (length (mirrors_here share))) ≡ mirrors_here share
mirrors_by_lid share =
    let m = length (masters_here share) in
    let n = length (mirrors_here share) in
    let long = length-map-range_with_len (vertex_at share) m n in
    ext_get_or 0 (map (vertex_at share) (range_with_len m n)) (mirrors_here share) long
    (λ i within. get_or-map-range_with_len (vertex_at share) m n i (m + i) 0 (omega (arith, within, long)) refl
    ∙ get_or-append-add (masters_here share) (mirrors_here share) i 0)

-- a mirror's vertex stands nowhere before it
module _ (share : Share) (lid : ℕ) (since : length (masters_here share) ≤ lid) (within : lid < length (proxies_here share)) where
  differs : (k : ℕ) → k < lid → vertex_at share k ≢ vertex_at share lid
  differs k before same =
      let m = length (masters_here share) in
      let place : lid - m < length (mirrors_here share) = omega (arith, length_proxies share) in
      elim (cases_lt k m) [
        | inl is_master ↦
            mirror_owned share (lid - m) place
            (ap (owner share) (sym (vertex_of_mirror share lid since) ∙ sym same ∙ vertex_of_master share k is_master) ∙ master_owned share k is_master)
        | inr is_mirror ↦
            let less : k - m < lid - m = omega arith in
            let up = rise_by_place (mirrors_here share) (k - m) (lid - m) (mirrors_rise share) less place in
            let here = vertex_of_mirror share k is_mirror in
            let there = vertex_of_mirror share lid since in
            omega (arith, up, here, there, same)
      ]

  -- so its local number is read back from its vertex
  pub lid_of_vertex : lid_of share (vertex_at share lid) ≡ lid
  lid_of_vertex =
      position_or_len_is (λ other. nat_eq other (vertex_at share lid)) (proxies_here share) lid 0 (omega arith)
      (λ k before. ne_eqb (vertex_at share k) (vertex_at share lid) (differs k before))
      (λ here. eq-eqb (vertex_at share lid) (vertex_at share lid) refl)

-- ---- masters

-- the vertex of a master by its local number
pub master_at : (share : Share) (lid id : ℕ) → lid < length (masters_here share) → slice_get (proxies_here share) lid ≡ Some id → slice_get (masters_here share) lid ≡ Some id
master_at share lid id within at =
    let here = element_at (masters_here share) lid within in
    here.1 ∙ ap (λ v. Some v) (same_Some here.0 id (sym (slice_get-append_left (masters_here share) (mirrors_here share) lid here.0 here.1) ∙ at))

-- a mirror's vertex has no master here
pub mirror_no_master : (share : Share) (lid id : ℕ) → length (masters_here share) ≤ lid → slice_get (proxies_here share) lid ≡ Some id → is_among (masters_here share) id ≡ false
mirror_no_master share lid id since at =
    let m = length (masters_here share) in
    let within = slice_get_within (proxies_here share) lid id at in
    let place : lid - m < length (mirrors_here share) = omega (arith, length_proxies share, within) in
    let is : vertex_at share lid ≡ id = get_or_from_slice_get (proxies_here share) lid id 0 at in
    list_any_none (λ other. nat_eq other id) (masters_here share)
    (λ k d below. ne_eqb (get_or (masters_here share) k d) id (λ same.
    mirror_owned share (lid - m) place
    (ap (owner share) (sym (vertex_of_mirror share lid since) ∙ is ∙ sym same ∙ get_or_default (masters_here share) k d 0 below) ∙ master_owned share k below)))

first_false : (a b : Bool) → (a || b) ≡ false → a ≡ false
first_false true b e = absurd (true≢false e)
first_false false b e = refl

-- nor has a vertex without a proxy
pub no_proxy_no_master : (share : Share) (id : ℕ) → is_among (proxies_here share) id ≡ false → is_among (masters_here share) id ≡ false
no_proxy_no_master share id none =
    first_false (is_among (masters_here share) id) (is_among (mirrors_here share) id) (sym (list_any-append (λ other. nat_eq other id) (masters_here share) (mirrors_here share)) ∙ none)

-- ---- the lists of a leg

-- what the pruned lists of a host take
abbrev taken_for : Leg → Way → Share → (peer : ℕ) → ℕ → Bool
taken_for leg way share peer v = owner share v == peer && (is_mirror (seen way share) share.host v && is_taken leg way share v)

own_is : (leg : Leg) (way : Way) (share : Share) (peer : ℕ) → own_of leg way share peer ≡ filter (taken_for leg way share peer) (range_with_len 0 (nodes_of share))
own_is Reduce way share peer = refl
own_is Spread way share peer = refl

pub own_rises : (leg : Leg) (way : Way) (share : Share) (peer : ℕ) → IsStrictlyIncreasing (own_of leg way share peer)
own_rises leg way share peer =
    subst IsStrictlyIncreasing (sym (own_is leg way share peer)) (IsStrictlyIncreasing-filter (taken_for leg way share peer) (range_with_len 0 (nodes_of share)) (range_rises 0 (nodes_of share)))

pub own_few : (leg : Leg) (way : Way) (share : Share) (peer : ℕ) → length (own_of leg way share peer) ≤ nodes_of share
own_few leg way share peer =
    let few = length_picked (taken_for leg way share peer) (range_with_len 0 (nodes_of share)) in
    let long = length-range_with_len 0 (nodes_of share) in
    subst (λ (l : List ℕ). length l ≤ nodes_of share) (sym (own_is leg way share peer)) (omega arith)

-- the same tests in another order
reordered : (m m' o t : Bool) → m ≡ m' → (o && (m && t)) ≡ (m' && (o && t))
reordered true true true t e = refl
reordered true true false t e = refl
reordered false false true t e = refl
reordered false false false t e = refl
reordered true false o t e = absurd (true≢false e)
reordered false true o t e = absurd (true≢false (sym e))

module _ (leg : Leg) (way : Way) (share : Share) (is : IsShare share) (peer first end : ℕ) (start : IsStartOf share peer first) (stop : IsStartOf share (peer + 1) end) where
  pub in_order : first ≤ end
  in_order = elim (cases_lt end first) [
    | inl wrong ↦
        let here : owner_at share end < peer = start.below end stop.since_masters wrong in
        let there : peer + 1 ≤ owner_at share end = stop.above end (omega arith) (let within = start.within in omega arith) in
        absurd (omega arith)
    | inr right ↦ right
  ]

  -- a mirror is taken where it stands among the peer's and takes part
  abbrev picks : ℕ → Bool
  picks lid = owner_at share lid == peer && is_taken leg way share (vertex_at share lid)

  from_mirrors : own_of leg way share peer ≡ filter (λ v. owner share v == peer && is_taken leg way share v) (mirrors_here share)
  from_mirrors =
      own_is leg way share peer
      ∙ filter_agree (taken_for leg way share peer) (λ v. is_mirror (seen Outward share) share.host v && (owner share v == peer && is_taken leg way share v))
      (λ v. reordered (is_mirror (seen way share) share.host v) (is_mirror (seen Outward share) share.host v) (owner share v == peer) (is_taken leg way share v) (mirrors_are_of_no_way.seen_here way share share.host v))
      (range_with_len 0 (nodes_of share))
      ∙ sym (filter-filter (λ v. owner share v == peer && is_taken leg way share v) (is_mirror (seen Outward share) share.host) (range_with_len 0 (nodes_of share)))

  of_part : filter picks (range_with_len (length (masters_here share)) (length (mirrors_here share))) ≡ filter (λ lid. is_taken leg way share (vertex_at share lid)) (range_with_len first (end - first))
  of_part =
      let m = length (masters_here share) in
      let since = start.since_masters in
      let within = stop.within in
      let long = length_proxies share in
      let order = in_order in
      let count : length (mirrors_here share) ≡ (first - m) + ((end - first) + (m + length (mirrors_here share) - end)) = omega arith in
      ap (λ n. filter picks (range_with_len m n)) count
      ∙ filter_range_part picks (λ lid. is_taken leg way share (vertex_at share lid)) m (first - m) (end - first) (m + length (mirrors_here share) - end) first end (omega arith) (omega arith)
      (λ k l h. ap (λ b. b && is_taken leg way share (vertex_at share k)) (ne_eqb (owner_at share k) peer (λ same. let low = start.below k l h in omega arith)))
      (λ k l h. ap (λ b. b && is_taken leg way share (vertex_at share k))
      (eq-eqb (owner_at share k) peer
      (let low : owner_at share k < peer + 1 = stop.below k (omega arith) h in
      let high : peer ≤ owner_at share k = start.above k l (omega arith) in
      omega arith)))
      (λ k l h. ap (λ b. b && is_taken leg way share (vertex_at share k))
      (ne_eqb (owner_at share k) peer (λ same. let high : peer + 1 ≤ owner_at share k = stop.above k l (omega arith) in omega arith)))

  -- the list of a leg, by local number
  pub own_by_lid : map (vertex_at share) (filter (λ lid. is_taken leg way share (vertex_at share lid)) (range_with_len first (end - first))) ≡ own_of leg way share peer
  own_by_lid =
      ap (map (vertex_at share)) (sym of_part)
      ∙ sym (filter-map (λ v. owner share v == peer && is_taken leg way share v) (vertex_at share) (range_with_len (length (masters_here share)) (length (mirrors_here share))))
      ∙ ap (filter (λ v. owner share v == peer && is_taken leg way share v)) (mirrors_by_lid share)
      ∙ sym from_mirrors

  -- and the local numbers of its vertices
  pub lids_of_own : map (lid_of share) (own_of leg way share peer) ≡ filter (λ lid. is_taken leg way share (vertex_at share lid)) (range_with_len first (end - first))
  lids_of_own =
      let since = start.since_masters in
      let within = stop.within in
      let order = in_order in
      ap (map (lid_of share)) (sym own_by_lid)
      ∙ map_back (vertex_at share) (lid_of share) (filter (λ lid. is_taken leg way share (vertex_at share lid)) (range_with_len first (end - first)))
      (All-filter (λ lid. is_taken leg way share (vertex_at share lid)) (λ lid. lid_of share (vertex_at share lid) ≡ lid) (range_with_len first (end - first))
      (All_range (λ lid. lid_of share (vertex_at share lid) ≡ lid) first (end - first) (λ k l h. lid_of_vertex share k (omega arith) (omega arith))))
