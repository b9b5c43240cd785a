-- What a host posts is the round's packet.
use Rattle.std.proofs.Common.{◌≡◌, ℕ, suc, ◌<◌, ◌≤◌, true, false, Bool, cond, not, ◌&&◌, ◌||◌, ◌==◌, nat_lt, Option, Some, None, List, [], ◌∷◌, length, map, get_or, slice_index, refl, sym, ◌∙◌, ap, subst, inl, inr}
use Rattle.std.specs.List.{All, filter_map, slice_get, range_with_len}
use Rattle.std.proofs.lemmas.Bool.{both_ways, and_parts, cases_lt, lt-ltb, or_left}
use Rattle.std.proofs.lemmas.Option.{slice_get-get_or}
use Rattle.std.proofs.lemmas.List.Elements.{All-nil, All-cons, All-head, All-tail, All-same, filter_passes}
use Rattle.field_encodings.specs.Lists.{values_at}
use Rattle.round_packets.specs.Runs.{shows, contribution}
use Rattle.graph_division.specs.Lists.{is_readable, is_writable, is_mirror, reduce_list, broadcast_list}
use Rattle.round_packets.specs.RunPackets.{kept, gathered}
use Rattle.host_laws.specs.Standing.{was_told}
use Rattle.cluster_laws.specs.Posting.{ReducesArePosted, BroadcastsArePosted}
use Rattle.cluster_laws.proofs.InTime.{denied}

-- what maps make is the same where their functions agree on the list
map_where : {X Y : Type 0} (P : X → Type 0) (f g : X → Y) → ((x : X) → P x → f x ≡ g x) → (xs : List X) → All P xs → map f xs ≡ map g xs
map_where P f g same [] all = refl
map_where P f g same (x ∷ xs) all = ap (λ y. y ∷ map f xs) (same x (All-head P x xs all)) ∙ ap (λ ys. g x ∷ ys) (map_where P f g same xs (All-tail P x xs all))

map-map : {X Y Z : Type 0} (g : Y → Z) (f : X → Y) (xs : List X) → map g (map f xs) ≡ map (λ x. g (f x)) xs
map-map g f [] = refl
map-map g f (x ∷ xs) = ap (λ ys. g (f x) ∷ ys) (map-map g f xs)

-- the values at places of a list
values_by_place : {X : Type 0} (values : List X) (d : X) (locals : List ℕ) → All (λ l. l < length values) locals → map (λ l. get_or values l d) locals ≡ values_at values locals
values_by_place values d [] all = refl
values_by_place values d (l ∷ locals) all =
    ap (λ xs. get_or values l d ∷ xs) (values_by_place values d locals (All-tail (λ k. k < length values) l locals all))
    ∙ sym (ap (λ o. cons_if o (filter_map (slice_get values) locals)) (slice_get-get_or values l d (All-head (λ k. k < length values) l locals all)))
  where
    cons_if : {Y : Type 0} → Option Y → List Y → List Y
    cons_if None ys = ys
    cons_if (Some y) ys = y ∷ ys

-- what holds of all that a map makes
all_of_map : {X Y : Type 0} (P : Y → Type 0) (f : X → Y) (xs : List X) → All P (map f xs) → All (λ x. P (f x)) xs
all_of_map P f [] all = All-nil (λ x. P (f x))
all_of_map P f (x ∷ xs) all = All-cons (λ y. P (f y)) x xs (All-head P (f x) (map f xs) all) (all_of_map P f xs (All-tail P (f x) (map f xs) all))

all_both : {X : Type 0} (P Q : X → Type 0) (xs : List X) → All P xs → All Q xs → All (λ x. P x × Q x) xs
all_both P Q [] ps qs = All-nil (λ x. P x × Q x)
all_both P Q (x ∷ xs) ps qs = All-cons (λ y. P y × Q y) x xs (All-head P x xs ps, All-head Q x xs qs) (all_both P Q xs (All-tail P x xs ps) (All-tail Q x xs qs))

module _ {Program Item State Shown : Type 0} {IsItem : Item → Type 0} {IsShown : Shown → Type 0} {IsState : State → Type 0} where
  pub reduces_are_posted : ReducesArePosted Program IsItem IsShown IsState
  reduces_are_posted run rounds to view items bits locals fact stands early gather are = record {
    same_marks = ap (map updated) (sym are.same_ids) ∙ map-map updated (slice_index view.vertices) locals
        ∙ map_where Sends (λ l. updated (slice_index view.vertices l)) (λ l. get_or bits l false) marks_agree locals sending;
    same_values = ap (map (gathered run rounds view.host)) (sym are.same_ids) ∙ map-map (gathered run rounds view.host) (slice_index view.vertices) locals
        ∙ map_where Sends (λ l. gathered run rounds view.host (slice_index view.vertices l)) (λ l. get_or items l run.reducer.identity) values_agree locals sending
        ∙ values_by_place items run.reducer.identity locals (subst (λ n. All (λ l. l < n) locals) (sym gather.long) are.within);
  }
    where
      updated : ℕ → Bool
      updated v = not (run.reducer.same (gathered run rounds view.host v) (kept run rounds view.host v))

      sends : ℕ → Bool
      sends v = run.division.master v == to && (is_mirror run.division view.host v && is_writable run.division view.host v)

      Sends : ℕ → Type 0
      Sends l = (l < length view.vertices) × (sends (slice_index view.vertices l) ≡ true)

      sending : All Sends locals
      sending = all_both (λ l. l < length view.vertices) (λ l. sends (slice_index view.vertices l) ≡ true) locals are.within
          (all_of_map (λ v. sends v ≡ true) (slice_index view.vertices) locals (All-same (λ v. sends v ≡ true) (map (slice_index view.vertices) locals) (reduce_list run.division view.host to) are.same_ids (filter_passes sends (range_with_len 0 run.division.nodes))))

      mirror : (l : ℕ) → Sends l → (is_mirror run.division view.host (slice_index view.vertices l) ≡ true) × (is_writable run.division view.host (slice_index view.vertices l) ≡ true)
      mirror l is = let v = slice_index view.vertices l in and_parts (is_mirror run.division view.host v) (is_writable run.division view.host v) (and_parts (run.division.master v == to) _ is.1).1

      behind : (l : ℕ) → Sends l → view.masters ≤ l
      behind l is =
          elim (cases_lt l view.masters) [
            | inr back ↦ back
            | inl front ↦
                let v = slice_index view.vertices l in
                let away = denied (run.division.master v == view.host) (and_parts (not (run.division.master v == view.host)) _ (mirror l is).0).0 in
                absurd (both_ways (run.division.master v == view.host) away (stands.share.masters_first l is.0 ∙ lt-ltb l view.masters front))
          ]

      -- what the mirror kept before
      had : (l : ℕ) → Sends l → get_or view.items l run.reducer.identity ≡ kept run rounds view.host (slice_index view.vertices l)
      had l is =
          let v = slice_index view.vertices l in
          stands.keeps l run.reducer.identity (behind l is) is.0 (mirror l is).1
          ∙ ap (λ b. cond (not b) (kept run rounds view.host v) (cond (not run.reducer.keeps || (was_told run.division view v && is_readable run.division view.host v)) (kept run (suc rounds) view.host v) (gathered run rounds view.host v))) early

      values_agree : (l : ℕ) → Sends l → gathered run rounds view.host (slice_index view.vertices l) ≡ get_or items l run.reducer.identity
      values_agree l is = sym (gather.gains l run.reducer.identity (behind l is) is.0 (mirror l is).1 ∙ ap (λ x. run.reducer.combine x (contribution run rounds view.host (slice_index view.vertices l))) (had l is))

      marks_agree : (l : ℕ) → Sends l → updated (slice_index view.vertices l) ≡ get_or bits l false
      marks_agree l is =
          ap (λ x. not (run.reducer.same x (kept run rounds view.host (slice_index view.vertices l)))) (values_agree l is)
          ∙ ap (λ x. not (run.reducer.same (get_or items l run.reducer.identity) x)) (sym (had l is))
          ∙ sym (gather.grew l run.reducer.identity (behind l is) is.0 (mirror l is).1)

  pub broadcasts_are_posted : BroadcastsArePosted Program IsItem IsShown IsState
  broadcasts_are_posted run rounds to view locals fact stands done long are = record {
    same_marks = ap (map updated) (sym are.same_ids) ∙ map-map updated (slice_index view.vertices) locals
        ∙ map_where Tells (λ l. updated (slice_index view.vertices l)) (λ l. get_or view.awake_next l false) marks_agree locals telling;
    same_values = ap (map (shows run (suc rounds))) (sym are.same_ids) ∙ map-map (shows run (suc rounds)) (slice_index view.vertices) locals
        ∙ map_where Tells (λ l. shows run (suc rounds) (slice_index view.vertices l)) (λ l. get_or view.next l any) values_agree locals telling
        ∙ values_by_place view.next any locals (subst (λ n. All (λ l. l < n) locals) (sym long) are.within);
  }
    where
      any : Shown
      any = run.steps.shown (run.steps.start 0)

      updated : ℕ → Bool
      updated v = not (run.steps.same (shows run rounds v) (shows run (suc rounds) v))

      tells : ℕ → Bool
      tells v = run.division.master v == view.host && (is_mirror run.division to v && is_readable run.division to v)

      Tells : ℕ → Type 0
      Tells l = (l < length view.vertices) × (tells (slice_index view.vertices l) ≡ true)

      telling : All Tells locals
      telling = all_both (λ l. l < length view.vertices) (λ l. tells (slice_index view.vertices l) ≡ true) locals are.within
          (all_of_map (λ v. tells v ≡ true) (slice_index view.vertices) locals (All-same (λ v. tells v ≡ true) (map (slice_index view.vertices) locals) (broadcast_list run.division view.host to) are.same_ids (filter_passes tells (range_with_len 0 run.division.nodes))))

      home : (l : ℕ) → Tells l → (run.division.master (slice_index view.vertices l) == view.host) ≡ true
      home l is = (and_parts (run.division.master (slice_index view.vertices l) == view.host) _ is.1).0

      lit : (l : ℕ) → Tells l → (nat_lt l view.masters || is_readable run.division view.host (slice_index view.vertices l)) ≡ true
      lit l is = or_left (nat_lt l view.masters) _ (sym (stands.share.masters_first l is.0) ∙ home l is)

      -- what the master shows next
      next_is : (l : ℕ) → Tells l → cond (cond (run.division.master (slice_index view.vertices l) == view.host) view.has_spread (was_told run.division view (slice_index view.vertices l))) (shows run (suc rounds) (slice_index view.vertices l)) (shows run rounds (slice_index view.vertices l)) ≡ shows run (suc rounds) (slice_index view.vertices l)
      next_is l is =
          let v = slice_index view.vertices l in
          ap (λ b. cond (cond b view.has_spread (was_told run.division view v)) (shows run (suc rounds) v) (shows run rounds v)) (home l is) ∙ ap (λ b. cond b (shows run (suc rounds) v) (shows run rounds v)) done

      values_agree : (l : ℕ) → Tells l → shows run (suc rounds) (slice_index view.vertices l) ≡ get_or view.next l any
      values_agree l is = sym (stands.next l any is.0 (lit l is) ∙ next_is l is)

      marks_agree : (l : ℕ) → Tells l → updated (slice_index view.vertices l) ≡ get_or view.awake_next l false
      marks_agree l is = sym (stands.awake_next l is.0 (lit l is) ∙ ap (λ y. not (run.steps.same (shows run rounds (slice_index view.vertices l)) y)) (next_is l is))
