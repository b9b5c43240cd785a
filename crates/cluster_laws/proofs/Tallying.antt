-- The masters that are awake next, host by host, are the vertices that show something new.
use Rattle.std.proofs.Common.{◌≡◌, ℕ, zero, suc, ◌+◌, ◌<◌, ◌≤◌, true, false, Bool, cond, not, ◌&&◌, ◌==◌, nat_lt, List, [], ◌∷◌, length, take, get_or, slice_index, refl, sym, ◌∙◌, ap, arith}
use Rattle.std.specs.List.{All, filter, range_with_len, sum_by, count_by}
use Rattle.std.proofs.lemmas.Bool.{or_left, lt-ltb}
use Rattle.std.proofs.lemmas.List.Elements.{All-head, All-tail, All-weaker}
use Rattle.std.proofs.lemmas.List.Sums.{sum_by-cons}
use Rattle.round_packets.specs.Runs.{Run, IsRun, shows}
use Rattle.graph_division.specs.Division.{hosts_of}
use Rattle.host_laws.specs.HostView.{HostView}
use Rattle.host_laws.specs.Standing.{StandsFor}
use Rattle.cluster_laws.specs.Cluster.{ClusterView, ClusterStands, IsOver}
use Rattle.cluster_laws.specs.Tally.{changes, changed, woken}
use Rattle.cluster_laws.proofs.Counting.{count-cons, count_agree, count_none, count_where, sum_agree, sum_where, once_in_range, range_below}

-- a range that begins one later
shifted : (p : ℕ → Bool) (first count : ℕ) → count_by p (range_with_len (first + 1) count) ≡ count_by (λ k. p (suc k)) (range_with_len first count)
shifted p first zero = refl
shifted p first (suc count) =
    count-cons p (first + 1) (range_with_len ((first + 1) + 1) count)
    ∙ ap (λ n. cond (p n) 1 0 + count_by p (range_with_len ((first + 1) + 1) count)) (let e : first + 1 ≡ suc first = omega arith in e)
    ∙ ap (λ n. cond (p (suc first)) 1 0 + n) (shifted p (first + 1) count)
    ∙ sym (count-cons (λ k. p (suc k)) first (range_with_len (first + 1) count))

from_one : (p : ℕ → Bool) (count : ℕ) → count_by p (range_with_len 1 count) ≡ count_by (λ k. p (suc k)) (range_with_len 0 count)
from_one p count = ap (λ n. count_by p (range_with_len n count)) (let e : 1 ≡ 0 + 1 = omega arith in e) ∙ shifted p 0 count

-- the truths among the first of a list, by place
truths_by_place : (count : ℕ) (xs : List Bool) → count_by (λ b. b) (take count xs) ≡ count_by (λ l. get_or xs l false) (range_with_len 0 count)
truths_by_place zero [] = refl
truths_by_place zero (x ∷ xs) = refl
truths_by_place (suc count) [] = sym (count_none (λ l. false) (λ l. refl) (range_with_len 0 (suc count)))
truths_by_place (suc count) (x ∷ xs) =
    count-cons (λ b. b) x (take count xs)
    ∙ ap (λ n. cond x 1 0 + n) (truths_by_place count xs ∙ sym (from_one (λ l. get_or (x ∷ xs) l false) count))
    ∙ sym (count-cons (λ l. get_or (x ∷ xs) l false) 0 (range_with_len 1 count))

-- and what a test finds among the first of a list of numbers
found_by_place : (p : ℕ → Bool) (count : ℕ) (xs : List ℕ) → count ≤ length xs → count_by p (take count xs) ≡ count_by (λ l. p (slice_index xs l)) (range_with_len 0 count)
found_by_place p zero [] fits = refl
found_by_place p zero (x ∷ xs) fits = refl
found_by_place p (suc count) [] fits = absurd (omega arith)
found_by_place p (suc count) (x ∷ xs) fits =
    count-cons p x (take count xs)
    ∙ ap (λ n. cond (p x) 1 0 + n) (found_by_place p count xs (omega arith) ∙ sym (from_one (λ l. p (slice_index (x ∷ xs) l)) count))
    ∙ sym (count-cons (λ l. p (slice_index (x ∷ xs) l)) 0 (range_with_len 1 count))

-- to count in what a filter keeps is to count what passes both tests
count_in_filter : {X : Type 0} (p q : X → Bool) (xs : List X) → count_by q (filter p xs) ≡ count_by (λ x. p x && q x) xs
count_in_filter p q [] = refl
count_in_filter {X} p q (x ∷ xs) = step (p x) (count_in_filter p q xs) ∙ sym (count-cons (λ y. p y && q y) x xs)
  where
    step : (b : Bool) → count_by q (filter p xs) ≡ count_by (λ y. p y && q y) xs → count_by q (cond b (x ∷ filter p xs) (filter p xs)) ≡ cond (b && q x) 1 0 + count_by (λ y. p y && q y) xs
    step true rest = count-cons q x (filter p xs) ∙ ap (λ n. cond (q x) 1 0 + n) rest
    step false rest = rest ∙ omega arith

-- sums add up
sum_both : {X : Type 0} (f g : X → ℕ) (xs : List X) → sum_by (λ x. f x + g x) xs ≡ sum_by f xs + sum_by g xs
sum_both f g [] = refl
sum_both f g (x ∷ xs) =
    sum_by-cons (λ y. f y + g y) x xs ∙ ap (λ n. (f x + g x) + n) (sum_both f g xs) ∙ swapped (f x) (g x) (sum_by f xs) (sum_by g xs)
    ∙ sym (ap (λ n. n + sum_by g (x ∷ xs)) (sum_by-cons f x xs) ∙ ap (λ n. (f x + sum_by f xs) + n) (sum_by-cons g x xs))
  where
    swapped : (a b c d : ℕ) → (a + b) + (c + d) ≡ (a + c) + (b + d)
    swapped a b c d = omega arith

-- where each number has a home below a bound, what is counted home by home is what is counted at all
pub count_by_home : (home : ℕ → ℕ) (p : ℕ → Bool) (homes : ℕ) (xs : List ℕ) → All (λ v. home v < homes) xs → sum_by (λ h. count_by (λ v. home v == h && p v) xs) (range_with_len 0 homes) ≡ count_by p xs
count_by_home home p homes [] all = zeros (range_with_len 0 homes)
  where
    zeros : (ks : List ℕ) → sum_by (λ h. 0) ks ≡ 0
    zeros [] = refl
    zeros (k ∷ ks) = sum_by-cons (λ h. 0) k ks ∙ ap (λ n. 0 + n) (zeros ks)
count_by_home home p homes (v ∷ xs) all =
    sum_agree (λ h. count_by (λ u. home u == h && p u) (v ∷ xs)) (λ h. cond (home v == h && p v) 1 0 + count_by (λ u. home u == h && p u) xs) (λ h. count-cons (λ u. home u == h && p u) v xs) (range_with_len 0 homes)
    ∙ sum_both (λ h. cond (home v == h && p v) 1 0) (λ h. count_by (λ u. home u == h && p u) xs) (range_with_len 0 homes)
    ∙ ap (λ n. n + sum_by (λ h. count_by (λ u. home u == h && p u) xs) (range_with_len 0 homes)) (one_home (p v))
    ∙ ap (λ n. cond (p v) 1 0 + n) (count_by_home home p homes xs (All-tail (λ u. home u < homes) v xs all))
    ∙ sym (count-cons p v xs)
  where
    and_all : (b : Bool) → (b && true) ≡ b
    and_all true = refl
    and_all false = refl

    and_not : (b : Bool) → (b && false) ≡ false
    and_not true = refl
    and_not false = refl

    one_home : (b : Bool) → count_by (λ h. home v == h && b) (range_with_len 0 homes) ≡ cond b 1 0
    one_home true = count_agree (λ h. home v == h && true) (λ h. home v == h) (λ h. and_all (home v == h)) (range_with_len 0 homes)
        ∙ once_in_range (home v) 0 homes (omega arith) (let within = All-head (λ u. home u < homes) v xs all in omega arith)
    one_home false = count_none (λ h. home v == h && false) (λ h. and_not (home v == h)) (range_with_len 0 homes)

module _ {Program Item State Shown : Type 0} {IsItem : Item → Type 0} {IsShown : Shown → Type 0} {IsState : State → Type 0} (run : Run Item State Shown) (fact : IsRun IsItem IsShown IsState run) (rounds : ℕ) where
  -- a master of a host that has spread is awake next exactly where it shows something new
  woken_of_host : (view : HostView Program Item State Shown) → StandsFor run rounds view → view.has_spread ≡ true → woken view ≡ count_by (λ v. run.division.master v == view.host && changes run rounds v) (range_with_len 0 run.division.nodes)
  woken_of_host view stands done =
      truths_by_place view.masters view.awake_next
      ∙ count_where (λ l. l < view.masters) (λ l. get_or view.awake_next l false) (λ l. changes run rounds (slice_index view.vertices l)) awake_where_new (range_with_len 0 view.masters) (range_below 0 view.masters view.masters (omega arith))
      ∙ sym (found_by_place (changes run rounds) view.masters view.vertices stands.share.masters_fit)
      ∙ ap (count_by (changes run rounds)) stands.share.masters_are
      ∙ count_in_filter (λ v. run.division.master v == view.host) (changes run rounds) (range_with_len 0 run.division.nodes)
    where
      awake_where_new : (l : ℕ) → l < view.masters → get_or view.awake_next l false ≡ changes run rounds (slice_index view.vertices l)
      awake_where_new l master =
          let v = slice_index view.vertices l in
          let fit = stands.share.masters_fit in
          let within : l < length view.vertices = omega arith in
          let home = stands.share.masters_first l within ∙ lt-ltb l view.masters master in
          stands.awake_next l within (or_left (nat_lt l view.masters) _ (lt-ltb l view.masters master))
          ∙ ap (λ y. not (run.steps.same (shows run rounds v) y))
          (ap (λ b. cond (cond b view.has_spread (get_or view.took_broadcast (run.division.master v) false)) (shows run (suc rounds) v) (shows run rounds v)) home
          ∙ ap (λ b. cond b (shows run (suc rounds) v) (shows run rounds v)) done)

  pub woken_are_changed : {item_bytes : Item → List ℕ} {shown_bytes : Shown → List ℕ} (cluster : ClusterView Program Item State Shown) → ClusterStands item_bytes shown_bytes run rounds cluster → IsOver run.division cluster → sum_by (λ h. woken (cluster.hosts h)) (hosts_of run.division) ≡ changed run rounds
  woken_are_changed cluster stands over =
      sum_where (λ h. h < run.division.hosts) (λ h. woken (cluster.hosts h)) (λ h. count_by (λ v. run.division.master v == h && changes run rounds v) (range_with_len 0 run.division.nodes))
      (λ h within. woken_of_host (cluster.hosts h) (stands.each h within) (over.spread_all h within)
      ∙ ap (λ n. count_by (λ v. run.division.master v == n && changes run rounds v) (range_with_len 0 run.division.nodes)) (stands.named h within))
      (hosts_of run.division) (range_below 0 run.division.hosts run.division.hosts (omega arith))
      ∙ count_by_home run.division.master (changes run rounds) run.division.hosts (range_with_len 0 run.division.nodes) mastered
    where
      mastered : All (λ v. run.division.master v < run.division.hosts) (range_with_len 0 run.division.nodes)
      mastered = All-weaker (λ v. v < run.division.nodes) (λ v. run.division.master v < run.division.hosts) fact.divided.mastered (range_with_len 0 run.division.nodes) (range_below 0 run.division.nodes run.division.nodes (omega arith))
