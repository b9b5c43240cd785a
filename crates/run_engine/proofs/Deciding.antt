-- How many rounds a run takes, as the number of changes in each tells.
use Rattle.std.proofs.Common.{◌≡◌, ℕ, zero, suc, ◌+◌, ◌<◌, ◌≤◌, true, false, Bool, cond, not, nat_lt, inl, inr, ◌⊎◌, refl, sym, subst, ◌∙◌, ap, arith}
use Rattle.std.specs.List.{count_by, range_with_len}
use Rattle.std.proofs.lemmas.Bool.{both_ways, cases_lt, ltb-false, ltb-true}
use Rattle.std.proofs.Math.Nat.{eq-or-lt_of_le}
use Rattle.graph_division.specs.Division.{whole}
use Rattle.lone_rounds.specs.RoundCount.{IsQuietRound}
use Rattle.round_packets.specs.Runs.{Run, IsRun, shows}
use Rattle.round_packets.proofs.Shares.{shows_value}
use Rattle.cluster_laws.specs.Tally.{changes, changed}
use Rattle.cluster_laws.proofs.Counting.{count-cons, count_none, count_where, range_below}
use Rattle.run_engine.specs.Running.{TakesRounds, KeepsChanging}

-- a truth counts
fails_where_none : (b : Bool) (rest : ℕ) → cond b 1 0 + rest ≡ 0 → b ≡ false
fails_where_none true rest none = absurd (omega arith)
fails_where_none false rest none = refl

rest_none : (b : Bool) (rest : ℕ) → cond b 1 0 + rest ≡ 0 → rest ≡ 0
rest_none true rest none = absurd (omega arith)
rest_none false rest none = omega arith

-- where none of the numbers from `first` on is counted, none passes the test
none_counted : (p : ℕ → Bool) (first count v : ℕ) → count_by p (range_with_len first count) ≡ 0 → first ≤ v → v < first + count → p v ≡ false
none_counted p first zero v none from below = absurd (omega arith)
none_counted p first (suc count) v none from below =
    split (eq-or-lt_of_le from) (λ above. none_counted p (first + 1) count v rest (omega arith) (omega arith))
  where
    sum : cond (p first) 1 0 + count_by p (range_with_len (first + 1) count) ≡ 0
    sum = sym (count-cons p first (range_with_len (first + 1) count)) ∙ none

    rest : count_by p (range_with_len (first + 1) count) ≡ 0
    rest = rest_none (p first) _ sum

    split : (first ≡ v) ⊎ (first < v) → (first < v → p v ≡ false) → p v ≡ false
    split (inl same) later = ap p (sym same) ∙ fails_where_none (p first) _ sum
    split (inr above) later = later above

-- a test that is told the same way
not_told : (b : Bool) → not b ≡ false → b ≡ true
not_told true h = refl
not_told false h = absurd (both_ways true h refl)

module _ {Item State Shown : Type 0} {IsItem : Item → Type 0} {IsShown : Shown → Type 0} {IsState : State → Type 0} (run : Run Item State Shown) (fact : IsRun IsItem IsShown IsState run) where
  -- a round in which nothing is counted as changed is quiet
  pub quiet_where_none : (before : ℕ) → changed run before ≡ 0 → IsQuietRound run.reducer run.steps run.division.nodes (whole run.division) before
  quiet_where_none before none v below =
      sym ((fact.program.same_tells (shows run before v) (shows run (suc before) v) (shows_value run fact before v below) (shows_value run fact (suc before) v below)).0
      (not_told (run.steps.same (shows run before v) (shows run (suc before) v)) (none_counted (changes run before) 0 run.division.nodes v none (omega arith) (omega arith))))

  -- and the other way round
  pub none_where_quiet : (before : ℕ) → IsQuietRound run.reducer run.steps run.division.nodes (whole run.division) before → changed run before ≡ 0
  none_where_quiet before quiet =
      count_where (λ v. v < run.division.nodes) (changes run before) (λ v. false)
      (λ v below. ap not ((fact.program.same_tells (shows run before v) (shows run (suc before) v) (shows_value run fact before v below) (shows_value run fact (suc before) v below)).1 (sym (quiet v below))))
      (range_with_len 0 run.division.nodes) (range_below 0 run.division.nodes run.division.nodes (omega arith))
      ∙ count_none (λ v. false) (λ v. refl) (range_with_len 0 run.division.nodes)

  -- no round, and each of them changes something
  pub keeps_none : KeepsChanging run 0
  keeps_none before early quiet = absurd (omega arith)

  -- one more round that changed something
  pub keeps_more : (rounds : ℕ) → KeepsChanging run rounds → 1 ≤ changed run rounds → KeepsChanging run (rounds + 1)
  keeps_more rounds keeps some before early quiet = split (cases_lt before rounds)
    where
      split : (before < rounds) ⊎ (rounds ≤ before) → ⊥
      split (inl earlier) = keeps before earlier quiet
      split (inr late) =
          let same : before ≡ rounds = omega arith in
          let none = none_where_quiet before quiet in
          let here = ap (changed run) same in omega arith

  -- the first quiet round is the last
  pub takes_so_many : (before : ℕ) → KeepsChanging run before → changed run before ≡ 0 → TakesRounds run (before + 1)
  takes_so_many before keeps none = record {
    before = before;
    last = omega arith;
    quiet = quiet_where_none before none;
    first = λ earlier quiet. split earlier quiet (cases_lt earlier before);
  }
    where
      split : (earlier : ℕ) → IsQuietRound run.reducer run.steps run.division.nodes (whole run.division) earlier → (earlier < before) ⊎ (before ≤ earlier) → before ≤ earlier
      split earlier quiet (inl early) = absurd (keeps earlier early quiet)
      split earlier quiet (inr late) = late

  -- the same, as a test tells it
  pub keeps_next : (rounds next : ℕ) (told : Bool) → KeepsChanging run rounds → told ≡ nat_lt 0 (changed run rounds) → told ≡ true → next ≡ rounds + 1 → KeepsChanging run next
  keeps_next rounds next told keeps is some same =
      subst (KeepsChanging run) (sym same) (keeps_more rounds keeps (let above = ltb-true 0 (changed run rounds) (sym is ∙ some) in omega arith))

  pub takes_next : (rounds next : ℕ) (told : Bool) → KeepsChanging run rounds → told ≡ nat_lt 0 (changed run rounds) → told ≡ false → next ≡ rounds + 1 → TakesRounds run next
  takes_next rounds next told keeps is none same =
      subst (TakesRounds run) (sym same) (takes_so_many rounds keeps (let below = ltb-false 0 (changed run rounds) (sym is ∙ none) in omega arith))

  -- more rounds than those that each change something
  pub takes_more : (budget : ℕ) → KeepsChanging run budget → (rounds : ℕ) → TakesRounds run rounds → budget < rounds
  takes_more budget keeps rounds takes = split (cases_lt takes.before budget)
    where
      split : (takes.before < budget) ⊎ (budget ≤ takes.before) → budget < rounds
      split (inl early) = absurd (keeps takes.before early takes.quiet)
      split (inr late) = let last = takes.last in omega arith

  -- a run ends within so many rounds, or each of them changes something
  abbrev pub EndsOrKeeps : ℕ → Type 0
  EndsOrKeeps budget = ((rounds : ℕ) × (rounds ≤ budget) × TakesRounds run rounds) ⊎ KeepsChanging run budget

  pub ends_or_keeps : (budget : ℕ) → EndsOrKeeps budget
  ends_or_keeps zero = inr keeps_none
  ends_or_keeps (suc budget) = more budget (ends_or_keeps budget)
    where
      here : (budget : ℕ) → KeepsChanging run budget → (changed run budget < 1) ⊎ (1 ≤ changed run budget) → EndsOrKeeps (budget + 1)
      here budget keeps (inl none) = inl (budget + 1, omega arith, takes_so_many budget keeps (omega arith))
      here budget keeps (inr some) = inr (keeps_more budget keeps some)

      more : (budget : ℕ) → EndsOrKeeps budget → EndsOrKeeps (suc budget)
      more budget (inl ends) = inl (ends.0, omega arith, ends.2)
      more budget (inr keeps) = let next : budget + 1 ≡ suc budget = omega arith in subst EndsOrKeeps next (here budget keeps (cases_lt (changed run budget) 1))
