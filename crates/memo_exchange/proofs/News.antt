-- What an opened memo shows of the letters to post, and the letters that are posted so far.
use Rattle.std.proofs.Common.{◌≡◌, ℕ, ◌+◌, ◌-◌, ◌^◌, ◌<◌, ◌≤◌, Bool, true, false, not, ◌||◌, ◌==◌, List, [], ◌∷◌, ◌++◌, length, map, refl, sym, ap, ◌∙◌, arith, append_assoc}
use Rattle.std.specs.List.{filter, range_with_len}
use Rattle.std.proofs.lemmas.List.{map-append}
use Rattle.std.proofs.lemmas.List.FromFn.{length-range_with_len, get_or-map-range_with_len}
use Rattle.graph_model.specs.declared.edge.Way.{Way}
use Rattle.graph_model.specs.Graph.{most_nodes}
use Rattle.graph_division.specs.Shares.{Share, IsShare, seen, nodes_of}
use Rattle.address_memo.specs.Memos.{Memos, Proxies, none, list_at, proxies_of, own_reduce, own_spread, opened}
use Rattle.address_memo.specs.Payload.{payload}
use Rattle.address_memo.proofs.Filters.{length_picked, picked_more, picked_same}
use Rattle.memo_exchange.specs.Asks.{has_news}
use Rattle.memo_exchange.specs.Letters.{Sent, letter_to}

-- vertices that are picked of a graph are so few that four bytes count them
picked_short : (p : ℕ → Bool) (nodes : ℕ) (globals : List ℕ) → nodes ≤ most_nodes → globals ≡ filter p (range_with_len 0 nodes) → length globals < 2 ^ 32
picked_short p nodes globals fit is =
    let few = length_picked p (range_with_len 0 nodes) in
    let long = length-range_with_len 0 nodes in
    omega (arith, ap length is)

module _ (way : Way) (share : Share) (memo : Memos) (peer : ℕ) (is : memo ≡ opened way share) (below : peer < share.hosts) where
  pub reduce_at : (list_at memo.reduce_to peer).globals ≡ own_reduce way share peer
  reduce_at =
      ap (λ (m : Memos). (list_at m.reduce_to peer).globals) is
      ∙ ap (λ (list : Proxies). list.globals) (get_or-map-range_with_len (λ other. proxies_of share (own_reduce way share other)) 0 share.hosts peer peer none below (omega arith))

  pub spread_at : (list_at memo.spread_from peer).globals ≡ own_spread way share peer
  spread_at =
      ap (λ (m : Memos). (list_at m.spread_from peer).globals) is
      ∙ ap (λ (list : Proxies). list.globals) (get_or-map-range_with_len (λ other. proxies_of share (own_spread way share other)) 0 share.hosts peer peer none below (omega arith))

  -- there is something to reduce
  pub first_is_news : (empty : Bool) (globals : List ℕ) → empty ≡ (length globals == 0) → globals ≡ (list_at memo.reduce_to peer).globals → empty ≡ false → not empty ≡ has_news (seen way share) share.host peer
  first_is_news empty globals told same some =
      let is_empty : (length (own_reduce way share peer) == 0) ≡ false = sym (told ∙ ap (λ (l : List ℕ). length l == 0) (same ∙ reduce_at)) ∙ some in
      ap not some ∙ sym (ap (λ b. not b || not (length (own_spread way share peer) == 0)) is_empty)

  -- there is not, so what is to be told decides
  pub second_is_news : (empty other : Bool) (globals others : List ℕ) → empty ≡ (length globals == 0) → globals ≡ (list_at memo.reduce_to peer).globals → empty ≡ true
      → other ≡ (length others == 0) → others ≡ (list_at memo.spread_from peer).globals → not other ≡ has_news (seen way share) share.host peer
  second_is_news empty other globals others told same nothing told_other same_other =
      let is_empty : (length (own_reduce way share peer) == 0) ≡ true = sym (told ∙ ap (λ (l : List ℕ). length l == 0) (same ∙ reduce_at)) ∙ nothing in
      ap not (told_other ∙ ap (λ (l : List ℕ). length l == 0) (same_other ∙ spread_at))
      ∙ sym (ap (λ b. not b || not (length (own_spread way share peer) == 0)) is_empty)

  -- so short are the memo's lists
  pub reduce_short : IsShare share → (globals : List ℕ) → globals ≡ (list_at memo.reduce_to peer).globals → length globals < 2 ^ 32
  reduce_short facts globals same = picked_short _ (nodes_of share) globals facts.nodes_fit (same ∙ reduce_at)

  pub spread_short : IsShare share → (globals : List ℕ) → globals ≡ (list_at memo.spread_from peer).globals → length globals < 2 ^ 32
  spread_short facts globals same = picked_short _ (nodes_of share) globals facts.nodes_fit (same ∙ spread_at)

  -- and what they say is the letter to the peer
  pub told : (bytes reduce spread : List ℕ) → bytes ≡ payload reduce spread → reduce ≡ (list_at memo.reduce_to peer).globals → spread ≡ (list_at memo.spread_from peer).globals
      → bytes ≡ payload (own_reduce way share peer) (own_spread way share peer)
  told bytes reduce spread is_payload first second =
      is_payload ∙ ap (λ (l : List ℕ). payload l spread) (first ∙ reduce_at) ∙ ap (payload (own_reduce way share peer)) (second ∙ spread_at)

-- ---- letters that are posted

-- the letters to the peers below one
abbrev pub letters_below : Way → Share → (to : ℕ) → List Sent
letters_below way share to = map (letter_to way share) (filter (has_news (seen way share) share.host) (range_with_len 0 (to - 0)))

module _ (way : Way) (share : Share) (to : ℕ) (old mail : List Sent) (posted : mail ≡ old ++ letters_below way share to) where
  pub posted_more : (letter : Sent) → letter ≡ letter_to way share to → has_news (seen way share) share.host to ≡ true → mail ++ letter ∷ [] ≡ old ++ letters_below way share (to + 1)
  posted_more letter is news =
      let longer = picked_more (has_news (seen way share) share.host) 0 to (filter (has_news (seen way share) share.host) (range_with_len 0 (to - 0))) (omega arith) refl news in
      ap (λ (l : List Sent). l ++ letter ∷ []) posted
      ∙ append_assoc old (letters_below way share to) (letter ∷ [])
      ∙ ap (λ (l : List Sent). old ++ l)
      (ap (λ (s : Sent). letters_below way share to ++ s ∷ []) is
      ∙ sym (map-append (letter_to way share) (filter (has_news (seen way share) share.host) (range_with_len 0 (to - 0))) (to ∷ []))
      ∙ ap (map (letter_to way share)) longer)

  pub posted_same : has_news (seen way share) share.host to ≡ false → mail ≡ old ++ letters_below way share (to + 1)
  posted_same nothing =
      let same = picked_same (has_news (seen way share) share.host) 0 to (filter (has_news (seen way share) share.host) (range_with_len 0 (to - 0))) (omega arith) refl nothing in
      posted ∙ ap (λ (l : List ℕ). old ++ map (letter_to way share) l) same
