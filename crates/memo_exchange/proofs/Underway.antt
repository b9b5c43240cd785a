-- Memos while some payloads are on their way: each payload is in the mail, or its lists are accepted.
use Rattle.std.proofs.Common.{◌≡◌, ◌≢◌, ℕ, ◌+◌, ◌<◌, ◌⊎◌, inl, inr, true, false, ◌&&◌, ◌==◌, List, length, get_or, slice_get, slice_set, slice_index_or, Some, All, Contains, sym, ap, subst, ◌∙◌, arith}
use Rattle.std.specs.Prelude.{remove}
use Rattle.std.specs.List.{AllPairs, range_with_len}
use Rattle.std.proofs.lemmas.Bool.{and_parts, cases_lt, cases_eq}
use Rattle.std.proofs.lemmas.List.{length-set, get_or-set_same, get_or-set_other}
use Rattle.std.proofs.lemmas.List.Edits.{length-remove}
use Rattle.std.proofs.lemmas.List.Elements.{filter_passes}
use Rattle.std.proofs.lemmas.List.Quantifiers.{all_pairs_remove}
use Rattle.std.proofs.lemmas.Option.{slice_get_within, get_or_from_slice_get}
use Rattle.list_laws.specs.Among.{is_among}
use Rattle.list_laws.specs.Members.{has_member}
use Rattle.list_laws.proofs.Members.{has_member-with_other}
use Rattle.list_laws.proofs.Places.{element_at, All-at, slice_get_set_cases, slice_get-set_same, slice_get-set_other, slice_get_once}
use Rattle.graph_model.specs.declared.edge.Way.{Way}
use Rattle.graph_division.specs.Shares.{Share, IsShare, nodes_of, seen, masters_here}
use Rattle.graph_division.specs.Partition.{IsPartition, IsShareOf, masters_of_all}
use Rattle.graph_division.proofs.Listed.{picked}
use Rattle.graph_division.proofs.PrunedLists.{lists_rise}
use Rattle.address_memo.specs.Memos.{Memos, Proxies, AreMemos, AreMasters, Fits, none, list_at, own_reduce, own_spread, with_accepted}
use Rattle.address_memo.specs.Payload.{payload}
use Rattle.address_memo.specs.Checks.{AreMasterIds, reduce_ids, spread_ids}
use Rattle.address_memo.proofs.Masters.{ids_of_masters}
use Rattle.address_memo.proofs.Fitting.{memos_fit}
use Rattle.address_memo.proofs.Payloads.{first_ids, second_ids}
use Rattle.memo_exchange.specs.Letters.{Sent, letter_to}
use Rattle.memo_exchange.specs.Delivery.{CanDeliver, Delivers}
use Rattle.memo_exchange.proofs.Lists.{get_or_remove_cases, slice_get_removed, Contains-remove}

-- what a letter of a partition is
pub record IsLetter (way : Way) (shares : List Share) (sent : Sent) : Type 0 where
  pub sender : Share
  pub sender_at : slice_get shares sent.from ≡ Some sender
  pub receiver : Share
  pub receiver_at : slice_get shares sent.to ≡ Some receiver
  pub is : sent ≡ letter_to way sender sent.to

-- two letters that are not from one host to one host
pub record Differ (a b : Sent) : Type 0 where
  pub apart : a.from ≡ b.from → a.to ≡ b.to → ⊥

-- the letters of two places of a mail in which all differ
differ_at : (mail : List Sent) (i j : ℕ) (a b : Sent) → AllPairs Differ mail → slice_get mail i ≡ Some a → slice_get mail j ≡ Some b → i ≢ j → a.from ≡ b.from → a.to ≡ b.to → ⊥
differ_at mail i j a b apart a_at b_at other same_from same_to =
    let first_within = slice_get_within mail i a a_at in
    let second_within = slice_get_within mail j b b_at in
    let first_is : get_or mail i a ≡ a = get_or_from_slice_get mail i a a a_at in
    let second_is : get_or mail j a ≡ b = get_or_from_slice_get mail j b a b_at in
    elim (cases_lt i j) [
      | inl before ↦
          let differ = subst (λ (x : Sent). Differ x b) first_is (subst (λ (x : Sent). Differ (get_or mail i a) x) second_is (apart i j a before second_within)) in
          differ.apart same_from same_to
      | inr not_before ↦ elim (cases_lt j i) [
        | inl after ↦
            let differ = subst (λ (x : Sent). Differ x a) second_is (subst (λ (x : Sent). Differ (get_or mail j a) x) first_is (apart j i a after first_within)) in
            differ.apart (sym same_from) (sym same_to)
        | inr not_after ↦ other (omega arith)
      ]
    ]

-- a host has accepted what a peer tells it
pub record IsTold (way : Way) (peer : Share) (host : ℕ) (memo : Memos) : Type 0 where
  pub reduce : (list_at memo.reduce_from peer.host).globals ≡ own_reduce way peer host
  pub spread : (list_at memo.spread_to peer.host).globals ≡ own_spread way peer host

pub record IsUnderway (way : Way) (shares : List Share) (memos : List Memos) (mail : List Sent) : Type 0 where
  pub each : length memos ≡ length shares
  pub are : (host : ℕ) (memo : Memos) → slice_get memos host ≡ Some memo → AreMemos memo
  pub fit : (host : ℕ) (share : Share) (memo : Memos) → slice_get shares host ≡ Some share → slice_get memos host ≡ Some memo → Fits way share memo
  pub letters : All (IsLetter way shares) mail
  pub apart : AllPairs Differ mail
  pub waiting : (k : ℕ) (sent : Sent) (memo : Memos) → slice_get mail k ≡ Some sent → slice_get memos sent.to ≡ Some memo → has_member memo.accepted sent.from ≡ false
  pub told : (host : ℕ) (peer : ℕ) (share : Share) (memo : Memos) → slice_get shares peer ≡ Some share → slice_get memos host ≡ Some memo
      → Contains mail (letter_to way share host) ⊎ IsTold way share host memo

-- ---- the masters that are named

-- what a host lists with a peer has its masters there
module _ (way : Way) (shares : List Share) (partition : IsPartition shares) (sender receiver : Share) (from to : ℕ) (sender_at : slice_get shares from ≡ Some sender) (receiver_at : slice_get shares to ≡ Some receiver) where
  of_sender : IsShareOf (length shares) (masters_of_all shares) from sender
  of_sender = partition.by_host from sender sender_at

  of_receiver : IsShareOf (length shares) (masters_of_all shares) to receiver
  of_receiver = partition.by_host to receiver receiver_at

  same_masters : sender.masters ≡ receiver.masters
  same_masters = of_sender.agrees ∙ sym of_receiver.agrees

  is_mine : (v : ℕ) → v < nodes_of sender → (slice_index_or sender.masters v 0 == to) ≡ true → is_among (masters_here receiver) v ≡ true
  is_mine v known owned =
      let long = ap (λ (l : List ℕ). length l) same_masters in
      picked (λ u. slice_index_or receiver.masters u 0 == receiver.host) 0 (nodes_of receiver) v (omega arith) (omega arith)
      ∙ ap (λ (l : List ℕ). slice_index_or l v 0 == receiver.host) (sym same_masters)
      ∙ ap (λ h. slice_index_or sender.masters v 0 == h) of_receiver.of_host
      ∙ owned

  pub reduce_mine : AreMasterIds receiver (own_reduce way sender to)
  reduce_mine = record {
    rise = (lists_rise (seen way sender) sender.host to).0.0;
    are_mine = λ k d within.
        let v = get_or (own_reduce way sender to) k d in
        let passes = filter_passes (λ u. slice_index_or sender.masters u 0 == to && _) (range_with_len 0 (nodes_of sender)) k d within in
        is_mine v ((lists_rise (seen way sender) sender.host to).0.1 k d within) (and_parts (slice_index_or sender.masters v 0 == to) _ passes).0;
  }

  pub spread_mine : AreMasterIds receiver (own_spread way sender to)
  spread_mine = record {
    rise = (lists_rise (seen way sender) to sender.host).1.0;
    are_mine = λ k d within.
        let v = get_or (own_spread way sender to) k d in
        let passes = filter_passes (λ u. slice_index_or sender.masters u 0 == to && _) (range_with_len 0 (nodes_of sender)) k d within in
        is_mine v ((lists_rise (seen way sender) to sender.host).1.1 k d within) (and_parts (slice_index_or sender.masters v 0 == to) _ passes).0;
  }

-- ---- one delivery

module _ (way : Way) (shares : List Share) (partition : IsPartition shares) (memos : List Memos) (mail : List Sent) (now : IsUnderway way shares memos mail) (place : ℕ) (sent : Sent) (at : slice_get mail place ≡ Some sent) where
  letter : IsLetter way shares sent
  letter = All-at (IsLetter way shares) mail place sent now.letters at

  pub can_deliver : CanDeliver shares memos sent
  can_deliver =
      let within = slice_get_within shares sent.to letter.receiver letter.receiver_at in
      let each = now.each in
      let memo = element_at memos sent.to (omega arith) in
      let fits = now.fit sent.to letter.receiver memo.0 letter.receiver_at memo.1 in
      let below = slice_get_within shares sent.from letter.sender letter.sender_at in
      let of_hosts = (partition.by_host sent.to letter.receiver letter.receiver_at).of_hosts in
      record {
        share = letter.receiver;
        share_at = letter.receiver_at;
        memo = memo.0;
        memo_at = memo.1;
        peer = let hosts = fits.of_hosts in omega arith;
        first = now.waiting place sent memo.0 at memo.1;
        reduce = own_reduce way letter.sender sent.to;
        spread = own_spread way letter.sender sent.to;
        told = reduce_mine way shares partition letter.sender letter.receiver sent.from sent.to letter.sender_at letter.receiver_at;
        wanted = spread_mine way shares partition letter.sender letter.receiver sent.from sent.to letter.sender_at letter.receiver_at;
        says = ap (λ (s : Sent). s.bytes) letter.is;
      }

  module _ (after : List Memos) (done : Delivers shares memos after sent) where
    same_share : done.share ≡ letter.receiver
    same_share = slice_get_once shares sent.to done.share letter.receiver done.share_at letter.receiver_at

    receiver_is : IsShare letter.receiver
    receiver_is = (partition.by_host sent.to letter.receiver letter.receiver_at).is_share

    named_reduce : AreMasterIds letter.receiver done.reduce.globals
    named_reduce = subst (λ (s : Share). AreMasterIds s done.reduce.globals) same_share (ids_of_masters done.share done.reduce done.told)

    named_spread : AreMasterIds letter.receiver done.spread.globals
    named_spread = subst (λ (s : Share). AreMasterIds s done.spread.globals) same_share (ids_of_masters done.share done.spread done.wanted)

    same_bytes : payload done.reduce.globals done.spread.globals ≡ payload (own_reduce way letter.sender sent.to) (own_spread way letter.sender sent.to)
    same_bytes = sym done.says ∙ ap (λ (s : Sent). s.bytes) letter.is

    -- the lists that came are those that were sent
    reduce_came : done.reduce.globals ≡ own_reduce way letter.sender sent.to
    reduce_came =
        sym (first_ids letter.receiver receiver_is done.reduce.globals done.spread.globals named_reduce named_spread)
        ∙ ap reduce_ids same_bytes
        ∙ first_ids letter.receiver receiver_is (own_reduce way letter.sender sent.to) (own_spread way letter.sender sent.to)
        (reduce_mine way shares partition letter.sender letter.receiver sent.from sent.to letter.sender_at letter.receiver_at)
        (spread_mine way shares partition letter.sender letter.receiver sent.from sent.to letter.sender_at letter.receiver_at)

    spread_came : done.spread.globals ≡ own_spread way letter.sender sent.to
    spread_came =
        sym (second_ids letter.receiver receiver_is done.reduce.globals done.spread.globals named_reduce named_spread)
        ∙ ap spread_ids same_bytes
        ∙ second_ids letter.receiver receiver_is (own_reduce way letter.sender sent.to) (own_spread way letter.sender sent.to)
        (reduce_mine way shares partition letter.sender letter.receiver sent.from sent.to letter.sender_at letter.receiver_at)
        (spread_mine way shares partition letter.sender letter.receiver sent.from sent.to letter.sender_at letter.receiver_at)

    -- the memo that accepted them
    abbrev new_memo : Memos
    new_memo = with_accepted done.memo sent.from done.reduce done.spread

    memo_at : (host : ℕ) (memo : Memos) → slice_get after host ≡ Some memo → ((host ≡ sent.to) × (new_memo ≡ memo)) ⊎ (slice_get memos host ≡ Some memo)
    memo_at host memo here = slice_get_set_cases memos sent.to (with_accepted done.memo sent.from done.reduce done.spread) host memo (ap (λ (l : List Memos). slice_get l host) (sym done.accepted) ∙ here)

    -- it stands at its host, and the others where they were
    new_stands : sent.to < length memos → slice_get after sent.to ≡ Some new_memo
    new_stands within = ap (λ (l : List Memos). slice_get l sent.to) done.accepted ∙ slice_get-set_same memos sent.to (with_accepted done.memo sent.from done.reduce done.spread) within

    stays : (host : ℕ) → host ≢ sent.to → slice_get memos host ≡ slice_get after host
    stays host elsewhere = sym (ap (λ (l : List Memos). slice_get l host) done.accepted ∙ slice_get-set_other memos sent.to host (with_accepted done.memo sent.from done.reduce done.spread) elsewhere)

    are_old : AreMemos done.memo
    are_old = now.are sent.to done.memo done.memo_at

    from_within : sent.from < done.memo.hosts
    from_within =
        let can = can_deliver in
        let same : can.memo ≡ done.memo = slice_get_once memos sent.to can.memo done.memo can.memo_at done.memo_at in
        subst (λ (m : Memos). sent.from < m.hosts) same can.peer

    are_new : AreMemos new_memo
    are_new = record {
      is_host = are_old.is_host;
      reduce_to_each = are_old.reduce_to_each;
      spread_from_each = are_old.spread_from_each;
      reduce_from_each = length-set done.memo.reduce_from sent.from done.reduce ∙ are_old.reduce_from_each;
      spread_to_each = length-set done.memo.spread_to sent.from done.spread ∙ are_old.spread_to_each;
      accepted_each = length-set done.memo.accepted sent.from true ∙ are_old.accepted_each;
    }

    -- it is told by the sender
    newly_told : (share : Share) → slice_get shares sent.from ≡ Some share → IsTold way share sent.to new_memo
    newly_told share share_at =
        let same : letter.sender ≡ share = slice_get_once shares sent.from letter.sender share letter.sender_at share_at in
        let number : share.host ≡ sent.from = (partition.by_host sent.from share share_at).of_host in
        let within = from_within in
        let many = are_old.reduce_from_each in
        let others = are_old.spread_to_each in
        record {
          reduce =
              ap (λ n. (list_at (slice_set done.memo.reduce_from sent.from done.reduce) n).globals) number
              ∙ ap (λ (list : Proxies). list.globals) (get_or-set_same done.memo.reduce_from sent.from done.reduce none (omega arith))
              ∙ reduce_came
              ∙ ap (λ (s : Share). own_reduce way s sent.to) same;
          spread =
              ap (λ n. (list_at (slice_set done.memo.spread_to sent.from done.spread) n).globals) number
              ∙ ap (λ (list : Proxies). list.globals) (get_or-set_same done.memo.spread_to sent.from done.spread none (omega arith))
              ∙ spread_came
              ∙ ap (λ (s : Share). own_spread way s sent.to) same;
        }

    -- and by others as before
    still_told : (peer : ℕ) (share : Share) → slice_get shares peer ≡ Some share → peer ≢ sent.from → IsTold way share sent.to done.memo → IsTold way share sent.to new_memo
    still_told peer share share_at other told =
        let number : share.host ≡ peer = (partition.by_host peer share share_at).of_host in
        let apart : share.host ≢ sent.from = λ same. other (sym number ∙ same) in
        record {
          reduce = ap (λ (list : Proxies). list.globals) (get_or-set_other done.memo.reduce_from sent.from share.host done.reduce none apart) ∙ told.reduce;
          spread = ap (λ (list : Proxies). list.globals) (get_or-set_other done.memo.spread_to sent.from share.host done.spread none apart) ∙ told.spread;
        }

    pub delivered : IsUnderway way shares after (remove mail place)
    delivered = record {
      each = ap length done.accepted ∙ length-set memos sent.to _ ∙ now.each;
      are = λ host memo here. elim (memo_at host memo here) [
        | inl new ↦ subst AreMemos new.1 are_new
        | inr old ↦ now.are host memo old
      ];
      fit = λ host share memo share_at here. elim (memo_at host memo here) [
        | inl new ↦ fits_new host share memo share_at new.0 new.1
        | inr old ↦ now.fit host share memo share_at old
      ];
      letters = λ k d within. elim (get_or_remove_cases mail place k d (slice_get_within mail place sent at) within) [
        | inl low ↦ subst (IsLetter way shares) (sym low.1) (now.letters k d (let long = length-remove mail place (slice_get_within mail place sent at) in omega arith))
        | inr high ↦ subst (IsLetter way shares) (sym high.1) (now.letters (k + 1) d (let long = length-remove mail place (slice_get_within mail place sent at) in omega arith))
      ];
      apart = all_pairs_remove Differ mail place (slice_get_within mail place sent at) now.apart;
      waiting = λ k other memo other_at here. still_waits k other memo other_at here;
      told = λ host peer share memo share_at here. told_now host peer share memo share_at here;
    }
      where
        place_within : place < length mail
        place_within = slice_get_within mail place sent at

        fits_new : (host : ℕ) (share : Share) (memo : Memos) → slice_get shares host ≡ Some share → host ≡ sent.to → new_memo ≡ memo → Fits way share memo
        fits_new host share memo share_at is_to is_new =
            let here : slice_get shares sent.to ≡ Some share = ap (slice_get shares) (sym is_to) ∙ share_at in
            let same : done.share ≡ share = slice_get_once shares sent.to done.share share done.share_at here in
            subst (Fits way share) is_new
            (memos_fit.still way share done.memo sent.from done.reduce done.spread (now.fit sent.to share done.memo here done.memo_at)
            (subst (λ (s : Share). AreMasters s done.reduce) same done.told) (subst (λ (s : Share). AreMasters s done.spread) same done.wanted))

        still_waits : (k : ℕ) (other : Sent) (memo : Memos) → slice_get (remove mail place) k ≡ Some other → slice_get after other.to ≡ Some memo → has_member memo.accepted other.from ≡ false
        still_waits k other memo other_at here =
            let source = slice_get_removed mail place k other place_within other_at in
            elim (memo_at other.to memo here) [
              | inl new ↦
                  let before : slice_get memos other.to ≡ Some done.memo = ap (slice_get memos) new.0 ∙ done.memo_at in
                  let open_yet = now.waiting source.0 other done.memo source.2 before in
                  let apart : other.from ≢ sent.from = λ same. differ_at mail source.0 place other sent now.apart source.2 at source.1 same new.0 in
                  ap (λ (m : Memos). has_member m.accepted other.from) (sym new.1)
                  ∙ has_member-with_other done.memo.accepted sent.from other.from apart
                  ∙ open_yet
              | inr old ↦ now.waiting source.0 other memo source.2 old
            ]

        -- what was in the mail still is, or it is the letter that was delivered
        in_mail : (host : ℕ) (share : Share) → Contains mail (letter_to way share host) → (sent ≡ letter_to way share host) ⊎ Contains (remove mail place) (letter_to way share host)
        in_mail host share held = elim (Contains-remove mail place (letter_to way share host) sent at place_within held) [
          | inl same ↦ inl (sym (get_or_from_slice_get mail place sent (letter_to way share host) at) ∙ same)
          | inr rest ↦ inr rest
        ]

        told_now : (host peer : ℕ) (share : Share) (memo : Memos) → slice_get shares peer ≡ Some share → slice_get after host ≡ Some memo → Contains (remove mail place) (letter_to way share host) ⊎ IsTold way share host memo
        told_now host peer share memo share_at here =
            let number : share.host ≡ peer = (partition.by_host peer share share_at).of_host in
            elim (cases_eq host sent.to) [
              | inl is_to ↦
                  let within = slice_get_within memos sent.to done.memo done.memo_at in
                  let stands : slice_get after sent.to ≡ Some new_memo = new_stands within in
                  let is_new : new_memo ≡ memo = slice_get_once after sent.to new_memo memo stands (ap (slice_get after) (sym is_to) ∙ here) in
                  elim (cases_eq peer sent.from) [
                    | inl is_from ↦
                        inr (subst (IsTold way share host) is_new
                        (subst (λ h. IsTold way share h new_memo) (sym is_to) (newly_told share (ap (slice_get shares) (sym is_from) ∙ share_at))))
                    | inr other ↦ elim (now.told host peer share done.memo share_at (ap (slice_get memos) is_to ∙ done.memo_at)) [
                      | inl held ↦ elim (in_mail host share held) [
                        | inl same ↦ absurd (other (sym (ap (λ (s : Sent). s.from) same ∙ number)))
                        | inr rest ↦ inl rest
                      ]
                      | inr told ↦
                          inr (subst (IsTold way share host) is_new
                          (subst (λ h. IsTold way share h new_memo) (sym is_to)
                          (still_told peer share share_at other (subst (λ h. IsTold way share h done.memo) is_to told))))
                    ]
                  ]
              | inr elsewhere ↦
                  let old : slice_get memos host ≡ Some memo = stays host elsewhere ∙ here in
                  elim (now.told host peer share memo share_at old) [
                    | inl held ↦ elim (in_mail host share held) [
                      | inl same ↦ absurd (elsewhere (sym (ap (λ (s : Sent). s.to) same)))
                      | inr rest ↦ inl rest
                    ]
                    | inr told ↦ inr told
                  ]
            ]
