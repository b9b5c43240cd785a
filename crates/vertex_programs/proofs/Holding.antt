-- What mirrors of a program of labels keep, and its packets, in the words of walks.
use Rattle.std.proofs.Common.{◌≡◌, ℕ, zero, suc, ◌-◌, ◌<◌, ◌≤◌, ◌==◌, min, nat_eq, true, false, Bool, cond, not, ◌&&◌, Option, refl, sym, ◌∙◌, ap, inl, inr, arith}
use Rattle.std.specs.List.{All, list_any, range_with_len}
use Rattle.std.proofs.lemmas.Bool.{cases_Bool, and_parts, eq-eqb, both_ways}
use Rattle.std.proofs.lemmas.List.Elements.{All-weaker, filter_passes}
use Rattle.graph_model.specs.Least.{Fares}
use Rattle.graph_division.specs.Division.{Division}
use Rattle.graph_division.specs.Lists.{is_readable, is_writable, is_mirror, reduce_list, broadcast_list}
use Rattle.graph_division.proofs.Listed.{picked}
use Rattle.graph_division.proofs.PrunedLists.{lists_rise}
use Rattle.round_packets.specs.Runs.{Run}
use Rattle.round_packets.specs.Packets.{carries, Agree}
use Rattle.round_packets.specs.RunPackets.{kept, gathered, reduce_packet, broadcast_packet}
use Rattle.round_packets.proofs.Kept.{kept_told, kept_untold, unread_is_untold}
use Rattle.round_packets.proofs.Carried.{untold_is_unchanged}
use Rattle.vertex_programs.specs.Labels.{number_of}
use Rattle.vertex_programs.specs.LabelPackets.{lesser, got, held, label_reduce_packet, label_broadcast_packet}
use Rattle.vertex_programs.proofs.Numbers.{IsLabel, lesser_none, number_of-lesser, lesser_is_label, is_less-number_of, option_eq-number_of, lesser_differs}
use Rattle.vertex_programs.proofs.Brought.{run_with, IsLabelRun, label, number_is_label, answer_is_label, got_number, got_is_label, comes, gets, label_at_most_comes, label_at_most_got}

-- a vertex that has a mirror on a host
pub record IsMirrorOf (division : Division) (host v : ℕ) : Type 0 where
  pub below : v < division.nodes
  pub mirrors : is_mirror division host v ≡ true

-- the vertices of a reduce list have mirrors on its sender
listed_are_mirrors : (division : Division) (from to : ℕ) → All (IsMirrorOf division from) (reduce_list division from to)
listed_are_mirrors division from to k d within = record {
  below = (lists_rise division from to).0.1 k d within;
  mirrors = mirror_of _ (filter_passes (λ v. division.master v == to && (is_mirror division from v && is_writable division from v)) (range_with_len 0 division.nodes) k d within);
}
  where
    mirror_of : (v : ℕ) → (division.master v == to && (is_mirror division from v && is_writable division from v)) ≡ true → is_mirror division from v ≡ true
    mirror_of v passes =
        (and_parts (is_mirror division from v) (is_writable division from v)
        (and_parts (division.master v == to) (is_mirror division from v && is_writable division from v) passes).1).0

module _ (limit size : ℕ) (fares : Fares) (division : Division) (plain : ℕ → ℕ → Option ℕ) (is : IsLabelRun limit size fares division plain) where
  -- the run of the program
  abbrev here : Run ℕ ℕ ℕ
  here = run_with limit size fares division

  -- what a mirror holds, as a number
  abbrev held_number : (host rounds v : ℕ) → ℕ
  held_number host rounds v = number_of (limit - 1) (held fares division plain host rounds v)

  -- what a vertex starts with is a label
  start_is_label : (v : ℕ) → v < division.nodes → IsLabel (limit - 1) (fares.start v)
  start_is_label v below n there =
      let fits = is.fits in
      let bound = fits.starts v n below there in
      let room = fits.room in
      omega (arith, bound, room)

  -- what a mirror holds that is read
  held_if_read : (host rounds v : ℕ) → is_readable division host v ≡ true → held fares division plain host rounds v ≡ plain rounds v
  held_if_read host rounds v read = ap (λ b. cond b (plain rounds v) (lesser (fares.start v) (got fares division plain host rounds v))) read

  -- and that is not
  held_if_not : (host rounds v : ℕ) → is_readable division host v ≡ false → held fares division plain host rounds v ≡ lesser (fares.start v) (got fares division plain host rounds v)
  held_if_not host rounds v unread = ap (λ b. cond b (plain rounds v) (lesser (fares.start v) (got fares division plain host rounds v))) unread

  -- the same as numbers
  number_if_read : (host rounds v : ℕ) → v < division.nodes → is_readable division host v ≡ true → held_number host rounds v ≡ label limit size fares division plain is rounds v
  number_if_read host rounds v below read = ap (number_of (limit - 1)) (held_if_read host rounds v read) ∙ number_is_label limit size fares division plain is rounds v below

  number_if_not : (host rounds v : ℕ) → v < division.nodes → is_readable division host v ≡ false → held_number host rounds v ≡ min (number_of (limit - 1) (fares.start v)) (got_number limit size fares division plain is host rounds v)
  number_if_not host rounds v below unread =
      ap (number_of (limit - 1)) (held_if_not host rounds v unread)
      ∙ number_of-lesser (limit - 1) (fares.start v) (got fares division plain host rounds v) (start_is_label v below) (got_is_label limit size fares division plain is host rounds v)

  -- what a mirror holds is a label
  held_is_label : (host rounds v : ℕ) → v < division.nodes → IsLabel (limit - 1) (held fares division plain host rounds v)
  held_is_label host rounds v below = step (is_readable division host v)
    where
      step : (b : Bool) → IsLabel (limit - 1) (cond b (plain rounds v) (lesser (fares.start v) (got fares division plain host rounds v)))
      step true = answer_is_label limit size fares division plain is rounds v below
      step false = lesser_is_label (limit - 1) (fares.start v) (got fares division plain host rounds v) (start_is_label v below) (got_is_label limit size fares division plain is host rounds v)

  -- and no more than what its host got
  held_at_most_got : (host rounds v : ℕ) → host < division.hosts → v < division.nodes → held_number host rounds v ≤ got_number limit size fares division plain is host rounds v
  held_at_most_got host rounds v there below =
      elim (cases_Bool (is_readable division host v)) [
        | inl read ↦ (
            let same = number_if_read host rounds v below read in
            let most = label_at_most_got limit size fares division plain is rounds host v there below in
            omega (arith, same, most)
            )
        | inr unread ↦ (let same = number_if_not host rounds v below unread in omega (arith, same))
      ]

  -- beside what it holds, what comes is what its host gets
  gathers : (host rounds v : ℕ) → host < division.hosts → v < division.nodes → min (held_number host rounds v) (comes limit size fares division plain is rounds host v) ≡ min (got_number limit size fares division plain is host (suc rounds) v) (held_number host rounds v)
  gathers host rounds v there below =
      let most = held_at_most_got host rounds v there below in
      let next = gets limit size fares division plain is rounds host v in
      omega (arith, most, next)

  -- a mirror that is read is listed where its master tells
  is_told_of : (host v : ℕ) → v < division.nodes → is_mirror division host v ≡ true → is_readable division host v ≡ true → list_any (λ id. id == v) (broadcast_list division (division.master v) host) ≡ true
  is_told_of host v below mirror read =
      picked (λ u. division.master u == division.master v && (is_mirror division host u && is_readable division host u)) 0 division.nodes v (omega arith) (omega arith)
      ∙ ap (λ b. b && (is_mirror division host v && is_readable division host v)) (eq-eqb (division.master v) (division.master v) refl)
      ∙ ap (λ b. b && is_readable division host v) mirror
      ∙ read

  -- what is told or not told in a round
  abbrev is_told : (rounds host v : ℕ) → Bool
  is_told rounds host v = carries here.shown_size (broadcast_packet here rounds (division.master v) host) v

  -- from one round to the next
  keeps_holding : (rounds host v : ℕ) → host < division.hosts → v < division.nodes → is_mirror division host v ≡ true → kept here rounds host v ≡ held_number host rounds v → kept here (suc rounds) host v ≡ held_number host (suc rounds) v
  keeps_holding rounds host v there below mirror before =
      elim (cases_Bool (is_told rounds host v)) [
        | inl told ↦ kept_told here refl rounds host v told ∙ sym (number_if_read host (suc rounds) v below (read told))
        | inr untold ↦ kept_untold here refl rounds host v untold
            ∙ ap (λ n. min n (comes limit size fares division plain is rounds host v)) before
            ∙ untold_holds untold
      ]
    where
      read : is_told rounds host v ≡ true → is_readable division host v ≡ true
      read told =
          elim (cases_Bool (is_readable division host v)) [
            | inl yes_read ↦ yes_read
            | inr unread ↦ absurd (both_ways (is_told rounds host v) (unread_is_untold here rounds host v below unread) told)
          ]

      untold_holds : is_told rounds host v ≡ false → min (held_number host rounds v) (comes limit size fares division plain is rounds host v) ≡ held_number host (suc rounds) v
      untold_holds untold =
          elim (cases_Bool (is_readable division host v)) [
            | inl reads ↦ (
                let was = number_if_read host rounds v below reads in
                let now = number_if_read host (suc rounds) v below reads in
                let same : label limit size fares division plain is (suc rounds) v ≡ label limit size fares division plain is rounds v = untold_is_unchanged _ _ _ here rounds (division.master v) host v is.is_run below (is_told_of host v below mirror reads) untold in
                let most = label_at_most_comes limit size fares division plain is rounds host v there in
                omega (arith, was, now, same, most)
                )
            | inr unread ↦ (
                let was = number_if_not host rounds v below unread in
                let now = number_if_not host (suc rounds) v below unread in
                let next = gets limit size fares division plain is rounds host v in
                omega (arith, was, now, next)
                )
          ]

  pub keeps_what_is_held : (rounds host v : ℕ) → host < division.hosts → v < division.nodes → is_mirror division host v ≡ true → kept here rounds host v ≡ held_number host rounds v
  unfolding kept
  keeps_what_is_held zero host v there below mirror =
      elim (cases_Bool (is_readable division host v)) [
        | inl reads ↦ sym (number_if_read host 0 v below reads)
        | inr unread ↦ sym (ap (number_of (limit - 1)) (held_if_not host 0 v unread ∙ lesser_none (fares.start v)))
      ]
  keeps_what_is_held (suc rounds) host v there below mirror = keeps_holding rounds host v there below mirror (keeps_what_is_held rounds host v there below mirror)

  -- what a mirror has gathered
  gathered_is_least : (rounds host v : ℕ) → host < division.hosts → v < division.nodes → is_mirror division host v ≡ true → gathered here rounds host v ≡ min (got_number limit size fares division plain is host (suc rounds) v) (held_number host rounds v)
  gathered_is_least rounds host v there below mirror =
      ap (λ n. min n (comes limit size fares division plain is rounds host v)) (keeps_what_is_held rounds host v there below mirror) ∙ gathers host rounds v there below

  pub reduce_is_least : (rounds from to : ℕ) → from < division.hosts → Agree (reduce_packet here rounds from to) (label_reduce_packet (limit - 1) fares division plain rounds from to)
  reduce_is_least rounds from to there = record {
    ids = refl;
    updated = All-weaker (IsMirrorOf division from) (λ v. (reduce_packet here rounds from to).updated v ≡ (label_reduce_packet (limit - 1) fares division plain rounds from to).updated v)
        (λ v at.
        let g = got_number limit size fares division plain is from (suc rounds) v in
        let h = held_number from rounds v in
        ap (λ n. not (nat_eq n (kept here rounds from v))) (gathered_is_least rounds from v there at.below at.mirrors)
        ∙ ap (λ n. not (nat_eq (min g h) n)) (keeps_what_is_held rounds from v there at.below at.mirrors)
        ∙ lesser_differs g h
        ∙ sym (is_less-number_of (limit - 1) (got fares division plain from (suc rounds) v) (held fares division plain from rounds v) (got_is_label limit size fares division plain is from (suc rounds) v) (held_is_label from rounds v at.below)))
        (reduce_list division from to) (listed_are_mirrors division from to);
    values = All-weaker (IsMirrorOf division from) (λ v. (reduce_packet here rounds from to).value v ≡ (label_reduce_packet (limit - 1) fares division plain rounds from to).value v)
        (λ v at.
        gathered_is_least rounds from v there at.below at.mirrors
        ∙ sym (number_of-lesser (limit - 1) (got fares division plain from (suc rounds) v) (held fares division plain from rounds v) (got_is_label limit size fares division plain is from (suc rounds) v) (held_is_label from rounds v at.below)))
        (reduce_list division from to) (listed_are_mirrors division from to);
  }

  pub broadcast_is_least : (rounds from to : ℕ) → Agree (broadcast_packet here rounds from to) (label_broadcast_packet (limit - 1) division plain rounds from to)
  broadcast_is_least rounds from to = record {
    ids = refl;
    updated = All-weaker (λ v. v < division.nodes) (λ v. (broadcast_packet here rounds from to).updated v ≡ (label_broadcast_packet (limit - 1) division plain rounds from to).updated v)
        (λ v below.
        ap not (
        ap (λ n. nat_eq n (label limit size fares division plain is (suc rounds) v)) (sym (number_is_label limit size fares division plain is rounds v below))
        ∙ ap (nat_eq (number_of (limit - 1) (plain rounds v))) (sym (number_is_label limit size fares division plain is (suc rounds) v below))
        ∙ sym (option_eq-number_of (limit - 1) (plain rounds v) (plain (suc rounds) v) (answer_is_label limit size fares division plain is rounds v below) (answer_is_label limit size fares division plain is (suc rounds) v below))))
        (broadcast_list division from to) ((lists_rise division from to).1).1;
    values = All-weaker (λ v. v < division.nodes) (λ v. (broadcast_packet here rounds from to).value v ≡ (label_broadcast_packet (limit - 1) division plain rounds from to).value v)
        (λ v below. sym (number_is_label limit size fares division plain is (suc rounds) v below))
        (broadcast_list division from to) ((lists_rise division from to).1).1;
  }
