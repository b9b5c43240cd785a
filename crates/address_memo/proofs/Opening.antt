-- The memo that is made of its lists is the one that is opened.
use Rattle.std.proofs.Common.{◌≡◌, ℕ, zero, suc, Bool, List, ◌∷◌, map, length, replicate, refl, sym, ap, ◌∙◌, arith}
use Rattle.std.proofs.lemmas.List.{length-replicate}
use Rattle.std.proofs.lemmas.List.FromFn.{length-map-range_with_len}
use Rattle.list_laws.specs.Members.{no_members}
use Rattle.graph_model.specs.declared.edge.Way.{Way}
use Rattle.graph_division.specs.Shares.{Share, IsShare}
use Rattle.address_memo.specs.Memos.{Proxies, Memos, AreMemos, none, opened}
use Rattle.address_memo.specs.Told.{Told, untold}

-- what is made of one element again and again
map_replicate : {X Y : Type 0} (f : X → Y) (n : ℕ) (x : X) → map f (replicate n x) ≡ replicate n (f x)
map_replicate f zero x = refl
map_replicate f (suc n) x = ap (λ l. f x ∷ l) (map_replicate f n x)

-- a memo by its parts
abbrev memo_of : (host hosts : ℕ) (reduce_to spread_from reduce_from spread_to : List Proxies) (accepted : List Bool) → Memos
memo_of host hosts reduce_to spread_from reduce_from spread_to accepted = record {
  host = host;
  hosts = hosts;
  reduce_to = reduce_to;
  spread_from = spread_from;
  reduce_from = reduce_from;
  spread_to = spread_to;
  accepted = accepted;
}

module _ (way : Way) (share : Share) (is : IsShare share) (host : ℕ) (reduce_to spread_from : List Proxies) (told : List Told) (accepted : List Bool)
    (of_host : host ≡ share.host) (own_reduce : reduce_to ≡ (opened way share).reduce_to) (own_spread : spread_from ≡ (opened way share).spread_from)
    (nothing_told : told ≡ replicate share.hosts untold) (marks : accepted ≡ no_members share.hosts) where
  of_hosts : length reduce_to ≡ share.hosts
  of_hosts = ap length own_reduce ∙ length-map-range_with_len _ 0 share.hosts

  -- the lists that a peer told
  abbrev reduce_of : Told → Proxies
  reduce_of lists = lists.reduce

  abbrev spread_of : Told → Proxies
  spread_of lists = lists.spread

  told_reduce : map reduce_of told ≡ replicate share.hosts none
  told_reduce = ap (map reduce_of) nothing_told ∙ map_replicate reduce_of share.hosts _

  told_spread : map spread_of told ≡ replicate share.hosts none
  told_spread = ap (map spread_of) nothing_told ∙ map_replicate spread_of share.hosts _

  pub opened_is : memo_of host (length reduce_to) reduce_to spread_from (map reduce_of told) (map spread_of told) accepted ≡ opened way share
  opened_is = λ i. memo_of (of_host i) (of_hosts i) (own_reduce i) (own_spread i) (told_reduce i) (told_spread i) (marks i)

  pub opened_are : AreMemos (memo_of host (length reduce_to) reduce_to spread_from (map reduce_of told) (map spread_of told) accepted)
  opened_are = record {
    is_host = let count = of_hosts in let below = is.is_host in omega arith;
    reduce_to_each = refl;
    spread_from_each = ap length own_spread ∙ length-map-range_with_len _ 0 share.hosts ∙ sym of_hosts;
    reduce_from_each = ap length told_reduce ∙ length-replicate share.hosts none ∙ sym of_hosts;
    spread_to_each = ap length told_spread ∙ length-replicate share.hosts none ∙ sym of_hosts;
    accepted_each = ap length marks ∙ length-replicate share.hosts _ ∙ sym of_hosts;
  }

-- an opened memo has a list for each host
pub opened_are_memos : (way : Way) (share : Share) → IsShare share → AreMemos (opened way share)
opened_are_memos way share is = record {
  is_host = is.is_host;
  reduce_to_each = length-map-range_with_len _ 0 share.hosts;
  spread_from_each = length-map-range_with_len _ 0 share.hosts;
  reduce_from_each = length-replicate share.hosts none;
  spread_to_each = length-replicate share.hosts none;
  accepted_each = length-replicate share.hosts _;
}
