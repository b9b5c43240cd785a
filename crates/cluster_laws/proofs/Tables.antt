-- A cluster as lists hold it: which events may come, which of them a pick names, and its steps.
use Rattle.std.proofs.Common.{◌≡◌, ℕ, ◌+◌, ◌-◌, ◌<◌, true, false, Bool, cond, not, ◌&&◌, ◌||◌, nat_lt, List, [], ◌∷◌, ◌++◌, length, map, get_or, refl, sym, ◌∙◌, ap, subst, inl, inr, arith, length-append}
use Rattle.std.specs.List.{All, filter, range_with_len, sum_by}
use Rattle.std.proofs.lemmas.Bool.{cases_Bool, both_ways, and_parts, ltb-true, lt-ltb, cases_lt}
use Rattle.std.proofs.lemmas.List.{length-map, get_or_past, get_or-map, get_or_append_left, get_or-append_right, get_or-set_same, get_or-set_other}
use Rattle.std.proofs.lemmas.List.FromFn.{fill_by_all}
use Rattle.std.proofs.lemmas.List.Sums.{sum_by-cons}
use Rattle.std.proofs.lemmas.List.Elements.{All-head, All-tail, filter-append}
use Rattle.round_packets.specs.Runs.{Run}
use Rattle.graph_division.specs.Division.{Division, hosts_of}
use Rattle.host_laws.specs.HostView.{HostView}
use Rattle.cluster_laws.specs.Channels.{is_channel, channels, payload}
use Rattle.cluster_laws.specs.Channels.Leg.{reduce}
use Rattle.cluster_laws.specs.Events.{Event, same_event, host_of, posting}
use Rattle.cluster_laws.specs.Events.Event.{compute, spread, deliver}
use Rattle.cluster_laws.specs.Cluster.{may_spread, may_come, enabled}
use Rattle.cluster_laws.specs.Steps.{Step, BecomesBy}
use Rattle.cluster_laws.specs.Tally.{packets_of}
use Rattle.cluster_laws.specs.Numbers.{number_of, channel_at, ClusterTable, FitsRun, flying, cluster_of, who_may_compute, who_may_spread, enabled_by_number, TableStep}
use Rattle.cluster_laws.specs.NumberLaws.{Picks}
use Rattle.cluster_laws.proofs.Counting.{range_below, sum_where}
use Rattle.cluster_laws.proofs.InTime.{channel_parts}
use Rattle.cluster_laws.proofs.Numbering.{has_number, at_number, is_channel_at, number_at, has_none}

-- what a filter keeps of what a map makes
filter-map : {X Y : Type 0} (p : Y → Bool) (f : X → Y) (xs : List X) → filter p (map f xs) ≡ map f (filter (λ x. p (f x)) xs)
filter-map p f [] = refl
filter-map {X} p f (x ∷ xs) = step (p (f x)) (filter-map p f xs)
  where
    step : (b : Bool) → filter p (map f xs) ≡ map f (filter (λ y. p (f y)) xs) → cond b (f x ∷ filter p (map f xs)) (filter p (map f xs)) ≡ map f (cond b (x ∷ filter (λ y. p (f y)) xs) (filter (λ y. p (f y)) xs))
    step true rest = ap (λ ys. f x ∷ ys) rest
    step false rest = rest

-- what holds of the elements of a list decides what a filter keeps
filter_where : {X : Type 0} (P : X → Type 0) (p q : X → Bool) → ((x : X) → P x → p x ≡ q x) → (xs : List X) → All P xs → filter p xs ≡ filter q xs
filter_where P p q same [] all = refl
filter_where P p q same (x ∷ xs) all =
    ap (λ b. cond b (x ∷ filter p xs) (filter p xs)) (same x (All-head P x xs all)) ∙ ap (λ ys. cond (q x) (x ∷ ys) ys) (filter_where P p q same xs (All-tail P x xs all))

map-map : {X Y Z : Type 0} (g : Y → Z) (f : X → Y) (xs : List X) → map g (map f xs) ≡ map (λ x. g (f x)) xs
map-map g f [] = refl
map-map g f (x ∷ xs) = ap (λ ys. g (f x) ∷ ys) (map-map g f xs)

sum-map_by : {X Y : Type 0} (g : Y → ℕ) (f : X → Y) (xs : List X) → sum_by g (map f xs) ≡ sum_by (λ x. g (f x)) xs
sum-map_by g f [] = refl
sum-map_by g f (x ∷ xs) = sum_by-cons g (f x) (map f xs) ∙ ap (λ n. g (f x) + n) (sum-map_by g f xs) ∙ sym (sum_by-cons (λ y. g (f y)) x xs)

module _ {Program Item State Shown : Type 0} (division : Division) (spare : HostView Program Item State Shown) (table : ClusterTable Program Item State Shown) where
  hosts_below : All (λ h. h < division.hosts) (hosts_of division)
  hosts_below = range_below 0 division.hosts division.hosts (omega arith)

  -- the events of hosts, where a test stands behind that the host is one
  of_hosts : (event : ℕ → Event) (p : ℕ → Bool) → ((h : ℕ) → may_come division (cluster_of division spare table) (event h) ≡ (nat_lt h division.hosts && p h)) → filter (may_come division (cluster_of division spare table)) (map event (hosts_of division)) ≡ map event (filter p (hosts_of division))
  of_hosts event p is =
      filter-map (may_come division (cluster_of division spare table)) event (hosts_of division)
      ∙ ap (map event) (filter_where (λ h. h < division.hosts) (λ h. may_come division (cluster_of division spare table) (event h)) p (λ h within. is h ∙ ap (λ b. b && p h) (lt-ltb h division.hosts within)) (hosts_of division) hosts_below)

  -- the channels of the division, number by number
  by_number : channels division ≡ map (channel_at division) (range_with_len 0 (packets_of division))
  by_number = fill_by_all (channel_at division) (channels division) (packets_of division) (record { leg = reduce; from = 0; to = 0 }) refl (λ k within. refl)

  of_channels : FitsRun division table → filter (may_come division (cluster_of division spare table)) (map deliver (channels division)) ≡ map (λ number. deliver (channel_at division number)) (flying table)
  of_channels fits =
      ap (λ cs. filter (may_come division (cluster_of division spare table)) (map deliver cs)) by_number
      ∙ ap (filter (may_come division (cluster_of division spare table))) (map-map deliver (channel_at division) (range_with_len 0 (packets_of division)))
      ∙ filter-map (may_come division (cluster_of division spare table)) (λ number. deliver (channel_at division number)) (range_with_len 0 (packets_of division))
      ∙ ap (map (λ number. deliver (channel_at division number)))
      (filter_where (λ number. number < packets_of division) (λ number. get_or table.flights (number_of division (channel_at division number)) false) (λ number. get_or table.flights number false)
      (λ number within. ap (λ n. get_or table.flights n false) (number_at division number within)) (range_with_len 0 (packets_of division)) (range_below 0 (packets_of division) (packets_of division) (omega arith))
      ∙ ap (λ n. filter (λ number. get_or table.flights number false) (range_with_len 0 n)) (sym fits.flights_fit))

  pub enabled_is : FitsRun division table → enabled division (cluster_of division spare table) ≡ enabled_by_number division spare table
  enabled_is fits =
      let p = may_come division (cluster_of division spare table) in
      filter-append p (map compute (hosts_of division)) (map spread (hosts_of division) ++ map deliver (channels division))
      ∙ ap (λ es. filter p (map compute (hosts_of division)) ++ es) (filter-append p (map spread (hosts_of division)) (map deliver (channels division)))
      ∙ ap (λ es. es ++ (filter p (map spread (hosts_of division)) ++ filter p (map deliver (channels division)))) (of_hosts compute (λ h. not (get_or table.hosts h spare).has_computed) (λ h. refl))
      ∙ ap (λ es. map compute (who_may_compute division spare table) ++ (es ++ filter p (map deliver (channels division)))) (of_hosts spread (λ h. may_spread division (get_or table.hosts h spare)) (λ h. refl))
      ∙ ap (λ es. map compute (who_may_compute division spare table) ++ (map spread (who_may_spread division spare table) ++ es)) (of_channels fits)

  -- bytes by channel are bytes by number
  pub bytes_are : FitsRun division table → sum_by (λ channel. length ((cluster_of division spare table).bytes channel)) (channels division) ≡ sum_by length table.payloads
  bytes_are fits =
      ap (sum_by (λ channel. length (get_or table.payloads (number_of division channel) []))) by_number
      ∙ sum-map_by (λ channel. length (get_or table.payloads (number_of division channel) [])) (channel_at division) (range_with_len 0 (packets_of division))
      ∙ sum_where (λ number. number < packets_of division) (λ number. length (get_or table.payloads (number_of division (channel_at division number)) [])) (λ number. length (get_or table.payloads number []))
      (λ number within. ap (λ n. length (get_or table.payloads n [])) (number_at division number within)) (range_with_len 0 (packets_of division)) (range_below 0 (packets_of division) (packets_of division) (omega arith))
      ∙ sym (ap (sum_by length) (fill_by_all (λ number. get_or table.payloads number []) table.payloads (packets_of division) [] fits.payloads_fit (λ k within. refl))
      ∙ sum-map_by length (λ number. get_or table.payloads number []) (range_with_len 0 (packets_of division)))

  pub picks : (place : ℕ) (none : Event) → Picks Program Item State Shown division spare table place none
  picks place none = record {
    computing = λ within. get_or_append_left computes (spreads ++ delivers) none place (omega (arith, many)) ∙ get_or-map compute (who_may_compute division spare table) place 0 none within;
    spreading = λ past within.
        get_or-append_right computes (spreads ++ delivers) (length (who_may_compute division spare table)) place none many past
        ∙ get_or_append_left spreads delivers none (place - length (who_may_compute division spare table)) (omega (arith, more, past, within))
        ∙ get_or-map spread (who_may_spread division spare table) (place - length (who_may_compute division spare table)) 0 none (omega (arith, past, within));
    delivering = λ past within.
        get_or-append_right computes (spreads ++ delivers) (length (who_may_compute division spare table)) place none many (omega (arith, past))
        ∙ get_or-append_right spreads delivers (length (who_may_spread division spare table)) (place - length (who_may_compute division spare table)) none more (omega (arith, past))
        ∙ ap (λ n. get_or delivers n none) (twice place (length (who_may_compute division spare table)) (length (who_may_spread division spare table)))
        ∙ get_or-map (λ number. deliver (channel_at division number)) (flying table) (place - (length (who_may_compute division spare table) + length (who_may_spread division spare table))) 0 none
        (let all = length-append computes (spreads ++ delivers) in let rest = length-append spreads delivers in let last = length-map (flying table) (λ number. deliver (channel_at division number)) in omega (arith, past, within, all, rest, last, many, more));
  }
    where
      computes : List Event
      computes = map compute (who_may_compute division spare table)

      spreads : List Event
      spreads = map spread (who_may_spread division spare table)

      delivers : List Event
      delivers = map (λ number. deliver (channel_at division number)) (flying table)

      many : length computes ≡ length (who_may_compute division spare table)
      many = length-map (who_may_compute division spare table) compute

      more : length spreads ≡ length (who_may_spread division spare table)
      more = length-map (who_may_spread division spare table) spread

      twice : (n a b : ℕ) → (n - a) - b ≡ n - (a + b)
      twice n a b = omega arith

module _ {Program Item State Shown : Type 0} {item_bytes : Item → List ℕ} {shown_bytes : Shown → List ℕ} (run : Run Item State Shown) (rounds : ℕ) (spare : HostView Program Item State Shown) (event : Event) (table new : ClusterTable Program Item State Shown) (fits : FitsRun run.division table) (step : TableStep item_bytes shown_bytes run rounds spare event table new) where
  -- the host of an event that may come is in the table
  host_within : (e : Event) → may_come run.division (cluster_of run.division spare table) e ≡ true → host_of e < length table.hosts
  host_within (compute h) may = subst (λ n. h < n) (sym fits.hosts_fit) (ltb-true h run.division.hosts (and_parts (nat_lt h run.division.hosts) _ may).0)
  host_within (spread h) may = subst (λ n. h < n) (sym fits.hosts_fit) (ltb-true h run.division.hosts (and_parts (nat_lt h run.division.hosts) _ may).0)
  host_within (deliver channel) may =
      elim (cases_lt (number_of run.division channel) (length table.flights)) [
        | inr past ↦ absurd (both_ways (get_or table.flights (number_of run.division channel) false) (get_or_past table.flights (number_of run.division channel) false past) may)
        | inl within ↦
            let below = subst (λ n. number_of run.division channel < n) fits.flights_fit within in
            subst (λ n. channel.to < n) (sym fits.hosts_fit) (channel_parts run channel (ap (is_channel run.division) (sym (at_number run.division channel below)) ∙ is_channel_at run.division (number_of run.division channel) below)).here
      ]

  pub table_steps : Step item_bytes shown_bytes run rounds event (cluster_of run.division spare table) (cluster_of run.division spare new)
  table_steps = record {
    may = step.may;
    here = subst (λ (w : HostView Program Item State Shown). BecomesBy run rounds event (get_or table.hosts (host_of event) spare) w)
        (sym (ap (λ hs. get_or hs (host_of event) spare) step.hosts_change ∙ get_or-set_same table.hosts (host_of event) step.view spare (host_within event step.may))) step.here;
    elsewhere = λ h apart. ap (λ hs. get_or hs h spare) step.hosts_change ∙ get_or-set_other table.hosts (host_of event) h step.view spare apart;
    flights = λ channel. elim (cases_Bool (is_channel run.division channel)) [
      | inl is ↦
          let number = number_of run.division channel in
          let at = at_number run.division channel (has_number run.division channel is) in
          step.flights_change number (has_number run.division channel is)
          ∙ ap (λ c. same_event (posting c) event || (get_or table.flights number false && not (same_event (deliver c) event))) at
          ∙ ap (λ b. (b && same_event (posting channel) event) || (get_or table.flights number false && not (same_event (deliver channel) event))) (sym is)
      | inr foreign ↦
          let past = has_none run.division channel foreign in
          get_or_past new.flights (number_of run.division channel) false (let e = step.lengths_stay.flights_fit in omega arith)
          ∙ sym (ap (λ b. (b && same_event (posting channel) event) || (get_or table.flights (number_of run.division channel) false && not (same_event (deliver channel) event))) foreign
          ∙ ap (λ b. b && not (same_event (deliver channel) event)) (get_or_past table.flights (number_of run.division channel) false (let e = fits.flights_fit in omega arith)))
    ];
    payloads = λ channel. elim (cases_Bool (is_channel run.division channel)) [
      | inl is ↦
          let number = number_of run.division channel in
          let at = at_number run.division channel (has_number run.division channel is) in
          step.payloads_change number (has_number run.division channel is)
          ∙ ap (λ c. cond (same_event (posting c) event) (payload item_bytes shown_bytes run rounds c) (get_or table.payloads number [])) at
          ∙ ap (λ b. cond (b && same_event (posting channel) event) (payload item_bytes shown_bytes run rounds channel) (get_or table.payloads number [])) (sym is)
      | inr foreign ↦
          let past = has_none run.division channel foreign in
          get_or_past new.payloads (number_of run.division channel) [] (let e = step.lengths_stay.payloads_fit in omega arith)
          ∙ sym (ap (λ b. cond (b && same_event (posting channel) event) (payload item_bytes shown_bytes run rounds channel) (get_or table.payloads (number_of run.division channel) [])) foreign
          ∙ get_or_past table.payloads (number_of run.division channel) [] (let e = fits.payloads_fit in omega arith))
    ];
  }
