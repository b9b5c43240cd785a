-- Channels and their numbers.
use Rattle.std.proofs.Common.{◌≡◌, ℕ, zero, suc, ◌+◌, ◌<◌, ◌≤◌, true, false, Bool, cond, not, ◌&&◌, ◌||◌, ◌==◌, nat_lt, List, [], ◌∷◌, ◌++◌, length, map, get_or, refl, sym, ◌∙◌, ap, inl, inr, arith}
use Rattle.std.specs.List.{All, AllPairs, filter, flat_map, range_with_len, count_by, position_or_len}
use Rattle.std.proofs.lemmas.Bool.{both_ways, and_from, or_left, or_right, eq-eqb, lt-ltb, cases_lt}
use Rattle.std.proofs.lemmas.List.Elements.{All-nil, All-cons, All-head, All-tail, All-append, All-map, All-weaker, All-filter, All-get_or, filter_passes}
use Rattle.std.proofs.lemmas.List.Kept.{AllPairs-cons}
use Rattle.graph_division.specs.Division.{Division, hosts_of}
use Rattle.cluster_laws.specs.Channels.{Leg, Channel, same_leg, same_channel, is_channel, pairs, channels}
use Rattle.cluster_laws.specs.Channels.Leg.{reduce, broadcast}
use Rattle.cluster_laws.specs.Tally.{packets_of}
use Rattle.cluster_laws.specs.Numbers.{leg_before, comes_before, number_of, channel_at}
use Rattle.cluster_laws.specs.Events.{posts_leg, same_event}
use Rattle.cluster_laws.specs.Events.Event.{compute, spread}
use Rattle.cluster_laws.specs.NumberLaws.{EventsByNumber}
use Rattle.std.proofs.lemmas.Bool.{false_from_ne_true}
use Rattle.std.proofs.lemmas.Bool.Decides.{eqb_tells}
use Rattle.cluster_laws.proofs.Sameness.{posting_is_no_delivery}
use Rattle.cluster_laws.proofs.Counting.{count-cons, range_below}
use Rattle.cluster_laws.proofs.Sameness.{same_channel_is, same_channel_itself, channel_once}

module _ {X : Type 0} (p : X → Bool) where
  -- where one is counted, the first place at which the test passes is one
  pub within_where_counted : (xs : List X) → 1 ≤ count_by p xs → position_or_len p xs < length xs
  within_where_counted [] some = absurd (omega arith)
  within_where_counted (x ∷ xs) some = step (p x) refl (within_where_counted xs)
    where
      step : (b : Bool) → p x ≡ b → (1 ≤ count_by p xs → position_or_len p xs < length xs) → cond (not b) (1 + position_or_len p xs) 0 < suc (length xs)
      step true is rest = omega arith
      step false is rest = let counted = count-cons p x xs ∙ ap (λ b. cond b 1 0 + count_by p xs) is in let within = rest (omega arith) in omega arith

  -- where none is counted none passes
  none_at : (xs : List X) (place : ℕ) (d : X) → count_by p xs ≡ 0 → place < length xs → p (get_or xs place d) ≡ false
  none_at [] place d none within = absurd (omega arith)
  none_at (x ∷ xs) place d none within = step place (p x) refl (λ k. none_at xs k d) within
    where
      step : (k : ℕ) (b : Bool) → p x ≡ b → ((j : ℕ) → count_by p xs ≡ 0 → j < length xs → p (get_or xs j d) ≡ false) → k < suc (length xs) → p (get_or (x ∷ xs) k d) ≡ false
      step k true is rest fits = absurd (let counted = count-cons p x xs ∙ ap (λ b. cond b 1 0 + count_by p xs) is in omega arith)
      step zero false is rest fits = is
      step (suc k) false is rest fits = let counted = count-cons p x xs ∙ ap (λ b. cond b 1 0 + count_by p xs) is in rest k (omega arith) (omega arith)

  -- where one is counted, a place at which the test passes is the first
  pub the_only_place : (xs : List X) (place : ℕ) (d : X) → count_by p xs ≡ 1 → place < length xs → p (get_or xs place d) ≡ true → position_or_len p xs ≡ place
  the_only_place [] place d one within passes = absurd (omega arith)
  the_only_place (x ∷ xs) place d one within passes = step place (p x) refl (λ j. the_only_place xs j d) within passes
    where
      step : (k : ℕ) (b : Bool) → p x ≡ b → ((j : ℕ) → count_by p xs ≡ 1 → j < length xs → p (get_or xs j d) ≡ true → position_or_len p xs ≡ j) → k < suc (length xs) → p (get_or (x ∷ xs) k d) ≡ true → cond (not b) (1 + position_or_len p xs) 0 ≡ k
      step zero true is rest fits at = refl
      step (suc k) true is rest fits at =
          let counted = count-cons p x xs ∙ ap (λ b. cond b 1 0 + count_by p xs) is in
          absurd (both_ways (p (get_or xs k d)) (none_at xs k d (omega arith) (omega arith)) at)
      step zero false is rest fits at = absurd (both_ways (p x) is at)
      step (suc k) false is rest fits at =
          let counted = count-cons p x xs ∙ ap (λ b. cond b 1 0 + count_by p xs) is in
          let before = rest k (omega arith) (omega arith) at in
          omega arith

  -- at the first place the test passes
  pub passes_there : (xs : List X) (d : X) → position_or_len p xs < length xs → p (get_or xs (position_or_len p xs) d) ≡ true
  passes_there [] d within = absurd (omega arith)
  passes_there (x ∷ xs) d within = step (p x) refl (passes_there xs d) within
    where
      step : (b : Bool) → p x ≡ b → (position_or_len p xs < length xs → p (get_or xs (position_or_len p xs) d) ≡ true) → cond (not b) (1 + position_or_len p xs) 0 < suc (length xs) → p (get_or (x ∷ xs) (cond (not b) (1 + position_or_len p xs) 0) d) ≡ true
      step true is rest fits = is
      step false is rest fits = ap (λ k. p (get_or (x ∷ xs) k d)) (let e : 1 + position_or_len p xs ≡ suc (position_or_len p xs) = omega arith in e) ∙ rest (omega arith)

module _ (division : Division) where
  all_channels : All (λ channel. is_channel division channel ≡ true) (channels division)
  all_channels = filter_passes (is_channel division) (pairs division reduce ++ pairs division broadcast)

  pub has_number : (channel : Channel) → is_channel division channel ≡ true → number_of division channel < packets_of division
  has_number channel is = within_where_counted (same_channel channel) (channels division) (let once = channel_once division channel is in omega arith)

  -- what has a number is the channel of that number
  pub at_number : (channel : Channel) → number_of division channel < packets_of division → channel_at division (number_of division channel) ≡ channel
  at_number channel within = sym (same_channel_is channel (channel_at division (number_of division channel)) (passes_there (same_channel channel) (channels division) (record { leg = reduce; from = 0; to = 0 }) within))

  pub is_channel_at : (number : ℕ) → number < packets_of division → is_channel division (channel_at division number) ≡ true
  is_channel_at number within = All-get_or (λ channel. is_channel division channel ≡ true) (channels division) number (record { leg = reduce; from = 0; to = 0 }) within all_channels

  pub number_at : (number : ℕ) → number < packets_of division → number_of division (channel_at division number) ≡ number
  number_at number within =
      the_only_place (same_channel (channel_at division number)) (channels division) number (record { leg = reduce; from = 0; to = 0 }) (channel_once division (channel_at division number) (is_channel_at number within)) within (same_channel_itself (channel_at division number))

  -- what is no channel of the division has no number
  pub has_none : (channel : Channel) → is_channel division channel ≡ false → packets_of division ≤ number_of division channel
  has_none channel not =
      elim (cases_lt (number_of division channel) (packets_of division)) [
        | inl within ↦ absurd (both_ways (is_channel division channel) not (ap (is_channel division) (sym (at_number channel within)) ∙ is_channel_at (number_of division channel) within))
        | inr past ↦ past
      ]

-- each element comes before all that follow it
Rises : {X : Type 0} → (X → X → Type 0) → List X → Type 0
Rises R [] = Unit {0}
Rises R (x ∷ xs) = All (R x) xs × Rises R xs

rises_pairs : {X : Type 0} (R : X → X → Type 0) (xs : List X) → Rises R xs → AllPairs R xs
unfolding Rises
rises_pairs R [] rises = λ i j d less within. absurd (omega arith)
rises_pairs R (x ∷ xs) rises = AllPairs-cons R x xs rises.0 (rises_pairs R xs rises.1)

rises_append : {X : Type 0} (R : X → X → Type 0) (xs ys : List X) → Rises R xs → Rises R ys → All (λ x. All (R x) ys) xs → Rises R (xs ++ ys)
unfolding Rises
rises_append R [] ys rises others all = others
rises_append R (x ∷ xs) ys rises others all =
    (All-append (R x) xs ys rises.0 (All-head (λ z. All (R z) ys) x xs all), rises_append R xs ys rises.1 others (All-tail (λ z. All (R z) ys) x xs all))

rises_filter : {X : Type 0} (R : X → X → Type 0) (p : X → Bool) (xs : List X) → Rises R xs → Rises R (filter p xs)
unfolding Rises
rises_filter R p [] rises = tt
rises_filter {X} R p (x ∷ xs) rises = step (p x) (rises_filter R p xs rises.1)
  where
    step : (b : Bool) → Rises R (filter p xs) → Rises R (cond b (x ∷ filter p xs) (filter p xs))
    step true rest = (All-filter p (R x) xs rises.0, rest)
    step false rest = rest

-- all numbers of a range are from its start on
range_from : (first count start : ℕ) → start ≤ first → All (λ k. start ≤ k) (range_with_len first count)
range_from first zero start low = All-nil (λ k. start ≤ k)
range_from first (suc count) start low = All-cons (λ k. start ≤ k) first (range_with_len (first + 1) count) low (range_from (first + 1) count start (omega arith))

module _ (division : Division) where
  -- the order of channels
  Before : Channel → Channel → Type 0
  Before channel other = comes_before channel other ≡ true

  made : Leg → ℕ → ℕ → Channel
  made leg from to = record { leg = leg; from = from; to = to }

  same_leg_itself : (leg : Leg) → same_leg leg leg ≡ true
  same_leg_itself reduce = refl
  same_leg_itself broadcast = refl

  by_receiver : (leg : Leg) (from to other : ℕ) → to < other → Before (made leg from to) (made leg from other)
  unfolding Before made
  by_receiver leg from to other less =
      or_right (leg_before leg leg) (same_leg leg leg && (nat_lt from from || (from == from && nat_lt to other)))
      (and_from (same_leg leg leg) (nat_lt from from || (from == from && nat_lt to other)) (same_leg_itself leg)
      (or_right (nat_lt from from) (from == from && nat_lt to other) (and_from (from == from) (nat_lt to other) (eq-eqb from from refl) (lt-ltb to other less))))

  by_sender : (leg : Leg) (from other to there : ℕ) → from < other → Before (made leg from to) (made leg other there)
  unfolding Before made
  by_sender leg from other to there less =
      or_right (leg_before leg leg) (same_leg leg leg && (nat_lt from other || (from == other && nat_lt to there)))
      (and_from (same_leg leg leg) (nat_lt from other || (from == other && nat_lt to there)) (same_leg_itself leg)
      (or_left (nat_lt from other) (from == other && nat_lt to there) (lt-ltb from other less)))

  row : Leg → ℕ → List Channel
  row leg from = map (made leg from) (hosts_of division)

  row_rises : (leg : Leg) (from first count : ℕ) → Rises Before (map (made leg from) (range_with_len first count))
  unfolding Rises
  row_rises leg from first zero = tt
  row_rises leg from first (suc count) = (
    All-map (Before (made leg from first)) (made leg from) (range_with_len (first + 1) count)
        (All-weaker (λ k. first + 1 ≤ k) (λ k. Before (made leg from first) (made leg from k)) (λ k low. by_receiver leg from first k (omega arith)) (range_with_len (first + 1) count) (range_from (first + 1) count (first + 1) (omega arith))),
    row_rises leg from (first + 1) count,
  )

  -- all that comes later stands below a later sender
  later_rows : (leg : Leg) (from to first count : ℕ) → from < first → All (Before (made leg from to)) (flat_map (row leg) (range_with_len first count))
  unfolding row
  later_rows leg from to first zero low = All-nil (Before (made leg from to))
  later_rows leg from to first (suc count) low =
      All-append (Before (made leg from to)) (row leg first) (flat_map (row leg) (range_with_len (first + 1) count))
      (All-map (Before (made leg from to)) (made leg first) (hosts_of division) (All-weaker (λ k. k < division.hosts) (λ k. Before (made leg from to) (made leg first k)) (λ k _. by_sender leg from first to k low) (hosts_of division) (range_below 0 division.hosts division.hosts (omega arith))))
      (later_rows leg from to (first + 1) count (omega arith))

  rows_rise : (leg : Leg) (first count : ℕ) → Rises Before (flat_map (row leg) (range_with_len first count))
  unfolding Rises row
  rows_rise leg first zero = tt
  rows_rise leg first (suc count) =
      rises_append Before (row leg first) (flat_map (row leg) (range_with_len (first + 1) count)) (row_rises leg first 0 division.hosts) (rows_rise leg (first + 1) count)
      (All-map (λ channel. All (Before channel) (flat_map (row leg) (range_with_len (first + 1) count))) (made leg first) (hosts_of division)
      (All-weaker (λ k. k < division.hosts) (λ k. All (Before (made leg first k)) (flat_map (row leg) (range_with_len (first + 1) count))) (λ k _. later_rows leg first k (first + 1) count (omega arith)) (hosts_of division) (range_below 0 division.hosts division.hosts (omega arith))))

  -- a fact of all pairs of a leg
  of_pairs : (P : Channel → Type 0) (leg : Leg) → ((from to : ℕ) → P (made leg from to)) → (ks : List ℕ) → All P (flat_map (row leg) ks)
  unfolding row
  of_pairs P leg holds [] = All-nil P
  of_pairs P leg holds (k ∷ ks) =
      All-append P (row leg k) (flat_map (row leg) ks)
      (All-map P (made leg k) (hosts_of division) (All-weaker (λ j. j < division.hosts) (λ j. P (made leg k j)) (λ j _. holds k j) (hosts_of division) (range_below 0 division.hosts division.hosts (omega arith))))
      (of_pairs P leg holds ks)

  pub channels_rise : AllPairs (λ channel other. comes_before channel other ≡ true) (channels division)
  unfolding Before made row
  channels_rise =
      rises_pairs Before (channels division) (rises_filter Before (is_channel division) (pairs division reduce ++ pairs division broadcast)
      (rises_append Before (pairs division reduce) (pairs division broadcast) (rows_rise reduce 0 division.hosts) (rows_rise broadcast 0 division.hosts)
      (of_pairs (λ channel. All (Before channel) (pairs division broadcast)) reduce (λ from to. of_pairs (Before (made reduce from to)) broadcast (λ other there. refl) (hosts_of division)) (hosts_of division))))

module _ (division : Division) where
  computes_by : (leg : Leg) (from h : ℕ) → same_event (posts_leg leg from) (compute h) ≡ (same_leg leg reduce && from == h)
  computes_by reduce from h = refl
  computes_by broadcast from h = refl

  spreads_by : (leg : Leg) (from h : ℕ) → same_event (posts_leg leg from) (spread h) ≡ (same_leg leg broadcast && from == h)
  spreads_by reduce from h = refl
  spreads_by broadcast from h = refl

  -- numbers are the same where their channels are
  same_number : (number other : ℕ) → number < packets_of division → other < packets_of division → same_channel (channel_at division number) (channel_at division other) ≡ (number == other)
  same_number number other within there =
      elim (eqb_tells number other) [
        | inl same ↦ ap (λ n. same_channel (channel_at division number) (channel_at division n)) (sym same.1) ∙ same_channel_itself (channel_at division number) ∙ sym same.0
        | inr apart ↦ false_from_ne_true (same_channel (channel_at division number) (channel_at division other))
            (λ so. apart.1 (sym (number_at division number within) ∙ ap (number_of division) (same_channel_is (channel_at division number) (channel_at division other) so) ∙ number_at division other there)) ∙ sym apart.0
      ]

  pub events_by_number : (number : ℕ) → EventsByNumber division number
  events_by_number number = record {
    computing = λ h. computes_by (channel_at division number).leg (channel_at division number).from h;
    spreading = λ h. spreads_by (channel_at division number).leg (channel_at division number).from h;
    delivering = λ channel. posting_is_no_delivery (channel_at division number).leg (channel_at division number).from channel;
    taking = λ other within there. same_number number other within there;
  }
