-- At the start all that hosts tell is in the mail; at the end all is told.
use Rattle.std.proofs.Common.{◌≡◌, ℕ, suc, ◌+◌, ◌<◌, ◌≤◌, ◌⊎◌, inl, inr, Bool, true, false, not, ◌||◌, ◌==◌, List, [], ◌∷◌, length, map, get_or, slice_get, Some, All, Contains, refl, sym, ap, subst, ◌∙◌, arith}
use Rattle.std.specs.Prelude.{option_map, count_by, sum_by}
use Rattle.std.specs.List.{AllPairs, filter, flat_map, range_with_len}
use Rattle.std.specs.List.Sorted.{IsStrictlyIncreasing}
use Rattle.std.proofs.lemmas.Bool.{eqb-true, true≢false}
use Rattle.std.proofs.lemmas.List.{length-map, get_or-map, get_or-replicate, nil_from_length}
use Rattle.std.proofs.lemmas.List.Concat.{length-flat_map}
use Rattle.std.proofs.lemmas.List.Elements.{filter_agree, All-filter, All-map, All-append, All-nil, All-weaker}
use Rattle.std.proofs.lemmas.List.Kept.{AllPairs-from_increasing, IsStrictlyIncreasing-filter}
use Rattle.std.proofs.lemmas.List.FromFn.{length-range_with_len}
use Rattle.std.proofs.lemmas.List.Sums.{sum_by-cons, sum_by-le, length-filter}
use Rattle.std.proofs.lemmas.Option.{slice_get_within, get_or_from_slice_get, slice_get-map, same_Some}
use Rattle.list_laws.specs.Members.{has_member}
use Rattle.list_laws.proofs.Members.{has_member-no_members}
use Rattle.list_laws.proofs.Places.{element_at, Contains-map}
use Rattle.graph_model.specs.declared.edge.Way.{Way}
use Rattle.graph_division.specs.Division.{hosts_of}
use Rattle.graph_division.specs.Lists.{reduce_list, broadcast_list}
use Rattle.graph_division.specs.Shares.{Share, seen}
use Rattle.graph_division.specs.Partition.{IsPartition, division_of}
use Rattle.graph_division.proofs.Partitions.{hosts_see_themselves}
use Rattle.graph_division.proofs.PrunedLists.{range_rises}
use Rattle.address_memo.specs.Memos.{Memos, Proxies, AreMemos, Fits, Agree, none, list_at, own_reduce, own_spread, opened}
use Rattle.address_memo.proofs.Filters.{All_range, length_picked}
use Rattle.address_memo.proofs.Fitting.{memos_fit}
use Rattle.address_memo.proofs.Opening.{opened_are_memos}
use Rattle.memo_exchange.specs.Asks.{has_news, exchange_asks}
use Rattle.memo_exchange.specs.Letters.{Sent, letter_to, letters_of}
use Rattle.memo_exchange.proofs.Lists.{AllPairs-append, Contains-flat_map, Contains-picked}
use Rattle.memo_exchange.proofs.Underway.{IsLetter, Differ, IsTold, IsUnderway}

both_pass : (p q : Bool) → (not p || not q) ≡ false → (p ≡ true) × (q ≡ true)
both_pass true true e = (refl, refl)
both_pass true false e = absurd (true≢false e)
both_pass false q e = absurd (true≢false e)

-- a host tells a peer nothing where both lists are empty
nothing_told : (a b : List ℕ) → (not (length a == 0) || not (length b == 0)) ≡ false → (a ≡ []) × (b ≡ [])
nothing_told a b e =
    let both = both_pass (length a == 0) (length b == 0) e in
    (nil_from_length a (eqb-true (length a) 0 both.0), nil_from_length b (eqb-true (length b) 0 both.1))

-- the receivers of a host's letters
abbrev receivers : Way → Share → List ℕ
receivers way share = filter (has_news (seen way share) share.host) (range_with_len 0 share.hosts)

receivers_rise : (way : Way) (share : Share) → IsStrictlyIncreasing (receivers way share)
receivers_rise way share = IsStrictlyIncreasing-filter (has_news (seen way share) share.host) (range_with_len 0 share.hosts) (range_rises 0 share.hosts)

-- what holds of each letter of a host
each_letter : (way : Way) (share : Share) (P : Sent → Type 0) → ((to : ℕ) → to < share.hosts → P (letter_to way share to)) → All P (letters_of way share)
each_letter way share P each =
    All-map P (letter_to way share) (receivers way share)
    (All-filter (has_news (seen way share) share.host) (λ to. P (letter_to way share to)) (range_with_len 0 share.hosts)
    (All_range (λ to. P (letter_to way share to)) 0 share.hosts (λ to low high. each to (omega arith))))

-- the letters of one host go to different hosts
letters_differ : (way : Way) (share : Share) → AllPairs Differ (letters_of way share)
letters_differ way share i j d before within =
    let long = length-map (receivers way share) (letter_to way share) in
    let first : get_or (letters_of way share) i d ≡ letter_to way share (get_or (receivers way share) i 0) = get_or-map (letter_to way share) (receivers way share) i 0 d (omega arith) in
    let second : get_or (letters_of way share) j d ≡ letter_to way share (get_or (receivers way share) j 0) = get_or-map (letter_to way share) (receivers way share) j 0 d (omega arith) in
    let up : get_or (receivers way share) i 0 < get_or (receivers way share) j 0 = AllPairs-from_increasing (receivers way share) (receivers_rise way share) i j 0 before (omega arith) in
    record {
      apart = λ same_from same_to.
          let a = ap (λ (s : Sent). s.to) first in
          let b = ap (λ (s : Sent). s.to) second in
          omega arith;
    }

module _ (way : Way) (shares : List Share) (partition : IsPartition shares) where
  -- the shares from a host on
  abbrev Follows : List Share → ℕ → Type 0
  Follows rest n = (i : ℕ) (share : Share) → slice_get rest i ≡ Some share → slice_get shares (n + i) ≡ Some share

  next : (share : Share) (rest : List Share) (n : ℕ) → Follows (share ∷ rest) n → Follows rest (n + 1)
  next share rest n follows i other at =
      let place : n + suc i ≡ n + 1 + i = omega arith in
      ap (slice_get shares) (sym place) ∙ follows (suc i) other at

  here : (share : Share) (rest : List Share) (n : ℕ) → Follows (share ∷ rest) n → slice_get shares n ≡ Some share
  here share rest n follows = let place : n + 0 ≡ n = omega arith in ap (slice_get shares) (sym place) ∙ follows 0 share refl

  -- each letter is one
  are_letters : (rest : List Share) (n : ℕ) → Follows rest n → All (IsLetter way shares) (flat_map (letters_of way) rest)
  are_letters [] n follows = All-nil (IsLetter way shares)
  are_letters (share ∷ rest) n follows =
      let at = here share rest n follows in
      let of_host = partition.by_host n share at in
      All-append (IsLetter way shares) (letters_of way share) (flat_map (letters_of way) rest)
      (each_letter way share (IsLetter way shares) (λ to below.
      let receiver = element_at shares to (let count = of_host.of_hosts in omega arith) in
      record {
        sender = share;
        sender_at = ap (slice_get shares) of_host.of_host ∙ at;
        receiver = receiver.0;
        receiver_at = receiver.1;
        is = refl;
      }))
      (are_letters rest (n + 1) (next share rest n follows))

  -- letters of later hosts
  come_later : (rest : List Share) (n : ℕ) → Follows rest n → All (λ (s : Sent). n ≤ s.from) (flat_map (letters_of way) rest)
  come_later [] n follows = All-nil (λ (s : Sent). n ≤ s.from)
  come_later (share ∷ rest) n follows =
      let of_host = partition.by_host n share (here share rest n follows) in
      let number = of_host.of_host in
      All-append (λ (s : Sent). n ≤ s.from) (letters_of way share) (flat_map (letters_of way) rest)
      (each_letter way share (λ (s : Sent). n ≤ s.from) (λ to below. omega arith))
      (All-weaker (λ (s : Sent). n + 1 ≤ s.from) (λ (s : Sent). n ≤ s.from) (λ s later. omega arith) (flat_map (letters_of way) rest) (come_later rest (n + 1) (next share rest n follows)))

  all_differ : (rest : List Share) (n : ℕ) → Follows rest n → AllPairs Differ (flat_map (letters_of way) rest)
  all_differ [] n follows = λ i j d before within. absurd (omega arith)
  all_differ (share ∷ rest) n follows =
      let number = (partition.by_host n share (here share rest n follows)).of_host in
      AllPairs-append Differ (letters_of way share) (flat_map (letters_of way) rest) (letters_differ way share) (all_differ rest (n + 1) (next share rest n follows))
      (each_letter way share (λ (s : Sent). All (Differ s) (flat_map (letters_of way) rest)) (λ to below.
      All-weaker (λ (s : Sent). n + 1 ≤ s.from) (Differ (letter_to way share to)) (λ s later. record { apart = λ same_from same_to. omega arith }) (flat_map (letters_of way) rest)
      (come_later rest (n + 1) (next share rest n follows))))

  all_follow : Follows shares 0
  all_follow i share at = let place : 0 + i ≡ i = omega arith in ap (slice_get shares) place ∙ at

  -- an opened memo is one of a host
  opened_at : (host : ℕ) (memo : Memos) → slice_get (map (opened way) shares) host ≡ Some memo → (share : Share) × (slice_get shares host ≡ Some share) × (opened way share ≡ memo)
  opened_at host memo at =
      let within = slice_get_within (map (opened way) shares) host memo at in
      let long = length-map shares (opened way) in
      let share = element_at shares host (omega arith) in
      (share.0, share.1, same_Some (opened way share.0) memo (sym (slice_get-map (opened way) shares host ∙ ap (option_map (opened way)) share.1) ∙ at))

  -- a host has told a peer nothing, or it has nothing to tell
  told_first : (host peer : ℕ) (share of_host : Share) → slice_get shares peer ≡ Some share → slice_get shares host ≡ Some of_host → (news : Bool) → has_news (seen way share) share.host host ≡ news
      → Contains (flat_map (letters_of way) shares) (letter_to way share host) ⊎ IsTold way share host (opened way of_host)
  told_first host peer share of_host share_at host_at true is =
      let count = (partition.by_host peer share share_at).of_hosts in
      let within = slice_get_within shares host of_host host_at in
      inl (Contains-flat_map (letters_of way) shares peer share (letter_to way share host) share_at
      (Contains-map (letter_to way share) (receivers way share) host (Contains-picked (has_news (seen way share) share.host) 0 share.hosts host (omega arith) (omega arith) is)))
  told_first host peer share of_host share_at host_at false is =
      let both = nothing_told (own_reduce way share host) (own_spread way share host) is in
      let count = (partition.by_host host of_host host_at).of_hosts in
      let number = (partition.by_host peer share share_at).of_host in
      let within = slice_get_within shares peer share share_at in
      let empty = ap (λ (list : Proxies). list.globals) (get_or-replicate of_host.hosts share.host none none (omega arith)) in
      inr (record { reduce = empty ∙ sym both.0; spread = empty ∙ sym both.1 })

  pub underway_first : IsUnderway way shares (map (opened way) shares) (flat_map (letters_of way) shares)
  underway_first = record {
    each = length-map shares (opened way);
    are = λ host memo at.
        let source = opened_at host memo at in
        subst AreMemos source.2 (opened_are_memos way source.0 (partition.by_host host source.0 source.1).is_share);
    fit = λ host share memo share_at at.
        let source = opened_at host memo at in
        let same : source.0 ≡ share = same_Some source.0 share (sym source.1 ∙ share_at) in
        subst (Fits way share) source.2 (subst (λ (s : Share). Fits way share (opened way s)) (sym same) (memos_fit.at_start way share));
    letters = are_letters shares 0 all_follow;
    apart = all_differ shares 0 all_follow;
    waiting = λ k sent memo sent_at at.
        let source = opened_at sent.to memo at in
        subst (λ (m : Memos). has_member m.accepted sent.from ≡ false) source.2 (has_member-no_members source.0.hosts sent.from);
    told = λ host peer share memo share_at at.
        let source = opened_at host memo at in
        subst (λ (m : Memos). Contains (flat_map (letters_of way) shares) (letter_to way share host) ⊎ IsTold way share host m) source.2
        (told_first host peer share source.0 share_at source.1 (has_news (seen way share) share.host host) refl);
  }

  -- with no mail left all hosts agree
  pub underway_over : (memos : List Memos) (mail : List Sent) → mail ≡ [] → IsUnderway way shares memos mail → Agree way shares memos
  underway_over memos mail empty now = record {
    each = now.each;
    fit = now.fit;
    reduce_from = λ host peer memo at below.
        let share = element_at shares peer below in
        let told = told_all host peer share.0 memo share.1 at in
        let shows = hosts_see_themselves way shares peer share.0 partition share.1 in
        ap (λ n. (list_at memo.reduce_from n).globals) (sym shows.of_host) ∙ told.reduce ∙ shows.reduces host;
    spread_to = λ host peer memo at below.
        let share = element_at shares peer below in
        let told = told_all host peer share.0 memo share.1 at in
        let shows = hosts_see_themselves way shares peer share.0 partition share.1 in
        ap (λ n. (list_at memo.spread_to n).globals) (sym shows.of_host) ∙ told.spread ∙ shows.broadcasts host;
  }
    where
      told_all : (host peer : ℕ) (share : Share) (memo : Memos) → slice_get shares peer ≡ Some share → slice_get memos host ≡ Some memo → IsTold way share host memo
      told_all host peer share memo share_at at = elim (now.told host peer share memo share_at at) [
        | inl held ↦ let within = held.1 in let none_left = ap (λ (l : List Sent). length l) empty in absurd (omega arith)
        | inr told ↦ told
      ]

  -- ---- how many letters there are

  -- what a host has to tell is what the whole division says
  same_news : (n : ℕ) (share : Share) → slice_get shares n ≡ Some share → (to : ℕ) → has_news (seen way share) share.host to ≡ has_news (division_of way shares) n to
  same_news n share at to =
      let shows = hosts_see_themselves way shares n share partition at in
      ap (λ (l : List ℕ). not (length l == 0) || not (length (broadcast_list (seen way share) to share.host) == 0)) (shows.reduces to)
      ∙ ap (λ (l : List ℕ). not (length (reduce_list (division_of way shares) n to) == 0) || not (length l == 0)) (shows.broadcasts to)

  letters_number : (n : ℕ) (share : Share) → slice_get shares n ≡ Some share → length (letters_of way share) ≡ count_by (has_news (division_of way shares) n) (hosts_of (division_of way shares))
  letters_number n share at =
      length-map (receivers way share) (letter_to way share)
      ∙ ap (λ (l : List ℕ). length l) (filter_agree (has_news (seen way share) share.host) (has_news (division_of way shares) n) (same_news n share at) (range_with_len 0 share.hosts))
      ∙ ap (λ hosts. length (filter (has_news (division_of way shares) n) (range_with_len 0 hosts))) (partition.by_host n share at).of_hosts
      ∙ length-filter (has_news (division_of way shares) n) (range_with_len 0 (length shares))

  numbers_add : (rest : List Share) (n : ℕ) → Follows rest n
      → sum_by (λ (s : Share). length (letters_of way s)) rest ≡ sum_by (λ from. count_by (has_news (division_of way shares) from) (hosts_of (division_of way shares))) (range_with_len n (length rest))
  numbers_add [] n follows = refl
  numbers_add (share ∷ rest) n follows =
      sum_by-cons (λ (s : Share). length (letters_of way s)) share rest
      ∙ ap (λ k. k + sum_by (λ (s : Share). length (letters_of way s)) rest) (letters_number n share (here share rest n follows))
      ∙ ap (λ k. count_by (has_news (division_of way shares) n) (hosts_of (division_of way shares)) + k) (numbers_add rest (n + 1) (next share rest n follows))
      ∙ sym (sum_by-cons (λ from. count_by (has_news (division_of way shares) from) (hosts_of (division_of way shares))) n (range_with_len (n + 1) (length rest)))

  pub letters_in_all : length (flat_map (letters_of way) shares) ≡ exchange_asks (division_of way shares)
  letters_in_all = length-flat_map (letters_of way) shares ∙ numbers_add shares 0 all_follow

  -- at most one from each of 64 hosts to each
  pub few_letters : length (flat_map (letters_of way) shares) ≤ 4096
  few_letters =
      let first = element_at shares 0 (let some = partition.some_host in omega arith) in
      let of_first = partition.by_host 0 first.0 first.1 in
      let few_hosts = of_first.is_share.few_hosts in
      let count = of_first.of_hosts in
      let each : All (λ (s : Share). length (letters_of way s) ≤ 64) shares
      = λ k d within.
      let share = element_at shares k within in
      let of_host = partition.by_host k share.0 share.1 in
      let same : get_or shares k d ≡ share.0 = get_or_from_slice_get shares k share.0 d share.1 in
      let below = of_host.is_share.few_hosts in
      let long = length-map (receivers way share.0) (letter_to way share.0) in
      let fewer = length_picked (has_news (seen way share.0) share.0.host) (range_with_len 0 share.0.hosts) in
      let range = length-range_with_len 0 share.0.hosts in
      subst (λ (s : Share). length (letters_of way s) ≤ 64) (sym same) (omega arith)
      in
      let all = sum_by-le (λ (s : Share). length (letters_of way s)) 64 shares each in
      let sum = length-flat_map (letters_of way) shares in
      omega arith
