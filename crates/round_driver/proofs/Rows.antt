-- The channels that memos ask for are those of the division on which the hosts agree.
use Rattle.std.proofs.Common.{◌≡◌, ℕ, zero, suc, ◌+◌, ◌*◌, ◌<◌, ◌≤◌, Bool, true, false, cond, ◌&&◌, List, [], ◌∷◌, ◌++◌, length, map, slice_get, Some, take, refl, sym, ap, subst, ◌∙◌, arith, lt-ltb, append_assoc}
use Rattle.std.specs.Prelude.{nat_lt}
use Rattle.std.specs.List.{filter, flat_map, range_with_len}
use Rattle.std.proofs.lemmas.List.{append-nil, map-append}
use Rattle.std.proofs.lemmas.List.Elements.{filter-append}
use Rattle.std.proofs.lemmas.Option.{same_Some}
use Rattle.graph_division.specs.Division.{Division, hosts_of}
use Rattle.address_memo.specs.Memos.{Memos}
use Rattle.address_memo.proofs.Filters.{range-append}
use Rattle.packet_table.specs.declared.channel_spec.Leg.{Leg as TableLeg}
use Rattle.packet_table.specs.declared.channel_spec.ChannelSpec.{ChannelSpec}
use Rattle.cluster_laws.specs.Channels.{Leg, Channel, is_needed, list_of, is_channel, pairs, channels}
use Rattle.cluster_laws.specs.Channels.Leg.{reduce, broadcast}
use Rattle.round_driver.specs.ClusterState.{leg_in_table, size_on, spec_of}
use Rattle.round_driver.specs.ChannelSpecs.{list_to, spec_to, specs_below, specs_of_leg}

-- ---- what is picked from lists of lists

filter-flat_map : {X Y : Type 0} (p : X → Bool) (f : Y → List X) (ys : List Y) → filter p (flat_map f ys) ≡ flat_map (λ y. filter p (f y)) ys
filter-flat_map p f [] = refl
filter-flat_map p f (y ∷ ys) = filter-append p (f y) (flat_map f ys) ∙ ap (λ l. filter p (f y) ++ l) (filter-flat_map p f ys)

map-flat_map : {X Y Z : Type 0} (g : X → Z) (f : Y → List X) (ys : List Y) → map g (flat_map f ys) ≡ flat_map (λ y. map g (f y)) ys
map-flat_map g f [] = refl
map-flat_map g f (y ∷ ys) = map-append g (f y) (flat_map f ys) ∙ ap (λ l. map g (f y) ++ l) (map-flat_map g f ys)

-- two ways to pick from a range that agree there
picked_alike : {X Z : Type 0} (f : X → Z) (p : X → Bool) (g : ℕ → X) (h : ℕ → Z) (q : ℕ → Bool) (first count : ℕ)
    → ((k : ℕ) → k < first + count → p (g k) ≡ q k) → ((k : ℕ) → k < first + count → f (g k) ≡ h k)
    → map f (filter p (map g (range_with_len first count))) ≡ map h (filter q (range_with_len first count))
picked_alike f p g h q first zero tests values = refl
picked_alike {X} {Z} f p g h q first (suc count) tests values =
    ap (λ b. map f (cond b (g first ∷ filter p (map g (range_with_len (first + 1) count))) (filter p (map g (range_with_len (first + 1) count))))) (tests first (omega arith))
    ∙ step (q first) (picked_alike f p g h q (first + 1) count (λ k within. tests k (omega arith)) (λ k within. values k (omega arith)))
  where
    step : (b : Bool) → map f (filter p (map g (range_with_len (first + 1) count))) ≡ map h (filter q (range_with_len (first + 1) count))
        → map f (cond b (g first ∷ filter p (map g (range_with_len (first + 1) count))) (filter p (map g (range_with_len (first + 1) count))))
        ≡ map h (cond b (first ∷ filter q (range_with_len (first + 1) count)) (filter q (range_with_len (first + 1) count)))
    step true rest = ap (λ z. z ∷ map f (filter p (map g (range_with_len (first + 1) count)))) (values first (omega arith)) ∙ ap (λ l. h first ∷ l) rest
    step false rest = rest

-- ---- the channels of one host, of one leg, and all

-- a memo has the lists of a host of the division
pub record HasLists (division : Division) (from : ℕ) (memo : Memos) : Type 0 where
  pub of_hosts : memo.hosts ≡ division.hosts
  pub lists : (leg : Leg) (to : ℕ) → to < division.hosts → list_to memo (leg_in_table leg) to ≡ list_of division leg from to

module _ (item_size shown_size : ℕ) (division : Division) where
  made : Leg → ℕ → ℕ → Channel
  made leg from to = record { leg = leg; from = from; to = to }

  -- the channels of a leg from a host
  row : Leg → ℕ → List ChannelSpec
  row leg from = map (spec_of item_size shown_size division) (filter (is_channel division) (map (made leg from) (hosts_of division)))

  row_is : (leg : Leg) (from : ℕ) (memo : Memos) → from < division.hosts → HasLists division from memo
      → row leg from ≡ specs_below (leg_in_table leg) (size_on item_size shown_size leg) from memo memo.hosts
  unfolding row made
  row_is leg from memo within has =
      picked_alike (spec_of item_size shown_size division) (is_channel division) (made leg from) (spec_to (leg_in_table leg) (size_on item_size shown_size leg) from memo) (λ to. is_needed (list_to memo (leg_in_table leg) to)) 0 division.hosts
      (λ to below.
      let there : to < division.hosts = omega arith in
      ap (λ b. (b && nat_lt to division.hosts) && is_needed (list_of division leg from to)) (lt-ltb from division.hosts within)
      ∙ ap (λ b. b && is_needed (list_of division leg from to)) (lt-ltb to division.hosts there)
      ∙ ap is_needed (sym (has.lists leg to there)))
      (λ to below. ap (λ (l : List ℕ). room_for leg from to (1 + length l * size_on item_size shown_size leg)) (sym (has.lists leg to (omega arith))))
      ∙ ap (specs_below (leg_in_table leg) (size_on item_size shown_size leg) from memo) (sym has.of_hosts)
    where
      room_for : Leg → (from to room : ℕ) → ChannelSpec
      room_for leg from to room = record { leg = leg_in_table leg; from = from; to = to; room = room }

  leg_is : (leg : Leg) (memos : List Memos) (first : ℕ) → first + length memos ≡ division.hosts
      → ((j : ℕ) (memo : Memos) → slice_get memos j ≡ Some memo → HasLists division (first + j) memo)
      → flat_map (row leg) (range_with_len first (length memos)) ≡ specs_of_leg (leg_in_table leg) (size_on item_size shown_size leg) first memos
  leg_is leg [] first long each = refl
  leg_is leg (memo ∷ memos) first long each =
      let place : first + 0 ≡ first = omega arith in
      ap (λ l. l ++ flat_map (row leg) (range_with_len (first + 1) (length memos))) (row_is leg first memo (omega arith) (subst (λ n. HasLists division n memo) place (each 0 memo refl)))
      ∙ ap (λ l. specs_below (leg_in_table leg) (size_on item_size shown_size leg) first memo memo.hosts ++ l)
      (leg_is leg memos (first + 1) (omega arith) (λ j later at. let next : first + suc j ≡ first + 1 + j = omega arith in subst (λ n. HasLists division n later) next (each (suc j) later at)))

  all_of_leg : (leg : Leg) → map (spec_of item_size shown_size division) (filter (is_channel division) (pairs division leg)) ≡ flat_map (row leg) (hosts_of division)
  unfolding row made
  all_of_leg leg =
      ap (map (spec_of item_size shown_size division)) (filter-flat_map (is_channel division) (λ from. map (made leg from) (hosts_of division)) (hosts_of division))
      ∙ map-flat_map (spec_of item_size shown_size division) (λ from. filter (is_channel division) (map (made leg from) (hosts_of division))) (hosts_of division)

  -- the channels that memos with the division's lists ask for are the division's
  pub channels_asked : (memos : List Memos) → length memos ≡ division.hosts
      → ((j : ℕ) (memo : Memos) → slice_get memos j ≡ Some memo → HasLists division j memo)
      → specs_of_leg (leg_in_table reduce) item_size 0 memos ++ specs_of_leg (leg_in_table broadcast) shown_size 0 memos
      ≡ map (spec_of item_size shown_size division) (channels division)
  channels_asked memos long each = sym (
      ap (map (spec_of item_size shown_size division)) (filter-append (is_channel division) (pairs division reduce) (pairs division broadcast))
      ∙ map-append (spec_of item_size shown_size division) (filter (is_channel division) (pairs division reduce)) (filter (is_channel division) (pairs division broadcast))
      ∙ ap (λ l. l ++ map (spec_of item_size shown_size division) (filter (is_channel division) (pairs division broadcast))) (of_leg reduce)
      ∙ ap (λ l. specs_of_leg (leg_in_table reduce) item_size 0 memos ++ l) (of_leg broadcast)
      )
    where
      of_leg : (leg : Leg) → map (spec_of item_size shown_size division) (filter (is_channel division) (pairs division leg)) ≡ specs_of_leg (leg_in_table leg) (size_on item_size shown_size leg) 0 memos
      of_leg leg =
          all_of_leg leg
          ∙ ap (λ n. flat_map (row leg) (range_with_len 0 n)) (sym long)
          ∙ leg_is leg memos 0 (omega arith) (λ j memo at. let place : j ≡ 0 + j = omega arith in subst (λ n. HasLists division n memo) place (each j memo at))

-- ---- the channels so far

needed_some : (ids : List ℕ) → 0 < length ids → is_needed ids ≡ true
needed_some [] some = absurd (omega arith)
needed_some (id ∷ ids) some = refl

needed_none : (ids : List ℕ) → length ids ≤ 0 → is_needed ids ≡ false
needed_none [] none = refl
needed_none (id ∷ ids) none = absurd (omega arith)

module _ (leg : TableLeg) (size from : ℕ) (memo : Memos) (to : ℕ) where
  needed : ℕ → Bool
  needed k = is_needed (list_to memo leg k)

  spec_for : ℕ → ChannelSpec
  spec_for k = spec_to leg size from memo k

  below_more : specs_below leg size from memo (to + 1) ≡ specs_below leg size from memo to ++ cond (is_needed (list_to memo leg to)) (spec_to leg size from memo to ∷ []) []
  unfolding needed spec_for
  below_more =
      let last : 0 + to ≡ to = omega arith in
      ap (λ l. map spec_for (filter needed l)) (range-append 0 to 1 ∙ ap (λ k. range_with_len 0 to ++ k ∷ []) last)
      ∙ ap (map spec_for) (filter-append needed (range_with_len 0 to) (to ∷ []))
      ∙ map-append spec_for (filter needed (range_with_len 0 to)) (cond (needed to) (to ∷ []) [])
      ∙ ap (λ l. map spec_for (filter needed (range_with_len 0 to)) ++ l) (step (needed to))
    where
      step : (b : Bool) → map spec_for (cond b (to ∷ []) []) ≡ cond b (spec_for to ∷ []) []
      step true = refl
      step false = refl

  -- the channel of a list that is not empty is added
  pub row_more : (old specs : List ChannelSpec) (spec : ChannelSpec) → specs ≡ old ++ specs_below leg size from memo to → 0 < length (list_to memo leg to) → spec ≡ spec_to leg size from memo to
      → specs ++ spec ∷ [] ≡ old ++ specs_below leg size from memo (to + 1)
  row_more old specs spec so_far some is =
      ap (λ l. l ++ spec ∷ []) so_far
      ∙ append_assoc old (specs_below leg size from memo to) (spec ∷ [])
      ∙ ap (λ l. old ++ l)
      (ap (λ s. specs_below leg size from memo to ++ s ∷ []) is
      ∙ ap (λ b. specs_below leg size from memo to ++ cond b (spec_to leg size from memo to ∷ []) []) (sym (needed_some (list_to memo leg to) some))
      ∙ sym below_more)

  -- an empty list has no channel
  pub row_same : (old specs : List ChannelSpec) → specs ≡ old ++ specs_below leg size from memo to → length (list_to memo leg to) ≤ 0
      → specs ≡ old ++ specs_below leg size from memo (to + 1)
  row_same old specs so_far empty =
      so_far
      ∙ ap (λ l. old ++ l)
      (sym (append-nil (specs_below leg size from memo to))
      ∙ ap (λ b. specs_below leg size from memo to ++ cond b (spec_to leg size from memo to ∷ []) []) (sym (needed_none (list_to memo leg to) empty))
      ∙ sym below_more)

-- the channels of one host more
pub leg_more : (leg : TableLeg) (size first : ℕ) (memos : List Memos) (k : ℕ) (memo : Memos) → slice_get memos k ≡ Some memo
    → specs_of_leg leg size first (take (suc k) memos) ≡ specs_of_leg leg size first (take k memos) ++ specs_below leg size (first + k) memo memo.hosts
leg_more leg size first [] k memo at = absurd (cc)
leg_more leg size first (other ∷ memos) zero memo at =
    let same : other ≡ memo = same_Some other memo at in
    let place : first ≡ first + 0 = omega arith in
    append-nil (specs_below leg size first other other.hosts)
    ∙ ap (λ (m : Memos). specs_below leg size first m m.hosts) same
    ∙ ap (λ n. specs_below leg size n memo memo.hosts) place
leg_more leg size first (other ∷ memos) (suc k) memo at =
    let place : first + 1 + k ≡ first + suc k = omega arith in
    ap (λ l. specs_below leg size first other other.hosts ++ l) (leg_more leg size (first + 1) memos k memo at ∙ ap (λ n. specs_of_leg leg size (first + 1) (take k memos) ++ specs_below leg size n memo memo.hosts) place)
    ∙ sym (append_assoc (specs_below leg size first other other.hosts) (specs_of_leg leg size (first + 1) (take k memos)) (specs_below leg size (first + suc k) memo memo.hosts))
