-- The lists of proxies along which one host exchanges values with the others, and when hosts agree on them.
use Rattle.std.specs.Prelude.{◌≡◌, ◌<◌, ℕ, Bool, List, [], length, map, replicate, slice_set, slice_get, slice_index, Some}
use Rattle.std.specs.List.{range_with_len, slice_index_or}
use Rattle.std.specs.List.Sorted.{IsStrictlyIncreasing}
use Rattle.list_laws.specs.Members.{no_members, with_member}
use Rattle.graph_model.specs.declared.edge.Way.{Way}
use Rattle.graph_division.specs.Lists.{reduce_list, broadcast_list}
use Rattle.graph_division.specs.Shares.{Share, seen, masters_here}
use Rattle.graph_division.specs.Partition.{division_of}
use Rattle.proxy_graph.specs.Heads.{lid_of}

-- proxies of a host that are exchanged with another: their local numbers and their vertices, in one order
pub record Proxies : Type 0 where
  pub locals : List ℕ
  pub globals : List ℕ

-- the list without proxies
abbrev pub none : Proxies
none = record { locals = []; globals = [] }

-- what holds of every list: one local number for each vertex, and both rise
pub record AreProxies (list : Proxies) : Type 0 where
  pub as_many : length list.locals ≡ length list.globals
  pub locals_rise : IsStrictlyIncreasing list.locals
  pub globals_rise : IsStrictlyIncreasing list.globals

-- the proxies of these vertices on a host that has them
abbrev pub proxies_of : Share → List ℕ → Proxies
proxies_of share globals = record { locals = map (lid_of share) globals; globals = globals }

-- One host's lists, each by the number of the peer: the mirrors that it reduces to the peer and those
-- that the peer broadcasts to it, which are its own; the masters to which the peer reduces and those that
-- it broadcasts to the peer, which the peer tells; and from whom it has accepted those.
pub record Memos : Type 0 where
  pub host : ℕ
  pub hosts : ℕ
  pub reduce_to : List Proxies
  pub spread_from : List Proxies
  pub reduce_from : List Proxies
  pub spread_to : List Proxies
  pub accepted : List Bool

-- the list for a peer
abbrev pub list_at : List Proxies → ℕ → Proxies
list_at lists peer = slice_index_or lists peer none

-- what holds of every memo
pub record AreMemos (memo : Memos) : Type 0 where
  pub is_host : memo.host < memo.hosts
  pub reduce_to_each : length memo.reduce_to ≡ memo.hosts
  pub spread_from_each : length memo.spread_from ≡ memo.hosts
  pub reduce_from_each : length memo.reduce_from ≡ memo.hosts
  pub spread_to_each : length memo.spread_to ≡ memo.hosts
  pub accepted_each : length memo.accepted ≡ memo.hosts

-- the mirrors that a host reduces to a peer, and those that the peer broadcasts to it
abbrev pub own_reduce : Way → Share → (peer : ℕ) → List ℕ
own_reduce way share peer = reduce_list (seen way share) share.host peer

abbrev pub own_spread : Way → Share → (peer : ℕ) → List ℕ
own_spread way share peer = broadcast_list (seen way share) peer share.host

-- a memo that has the host's own lists, in which nothing is accepted
abbrev pub opened : Way → Share → Memos
opened way share = record {
  host = share.host;
  hosts = share.hosts;
  reduce_to = map (λ peer. proxies_of share (own_reduce way share peer)) (range_with_len 0 share.hosts);
  spread_from = map (λ peer. proxies_of share (own_spread way share peer)) (range_with_len 0 share.hosts);
  reduce_from = replicate share.hosts none;
  spread_to = replicate share.hosts none;
  accepted = no_members share.hosts;
}

-- the same memo once two lists of a peer are accepted
abbrev pub with_accepted : Memos → (peer : ℕ) → (reduce spread : Proxies) → Memos
with_accepted memo peer reduce spread = record memo {
  reduce_from = slice_set memo.reduce_from peer reduce;
  spread_to = slice_set memo.spread_to peer spread;
  accepted = with_member memo.accepted peer;
}

-- each proxy of a list is a master of the host, with its local number
pub record AreMasters (share : Share) (list : Proxies) : Type 0 where
  pub is_list : AreProxies list
  pub are_masters : (i : ℕ) → i < length list.globals → slice_get (masters_here share) (slice_index list.locals i) ≡ slice_get list.globals i

-- a memo fits a host's share and a way: its own lists are the host's, and the proxies of the others are masters here
pub record Fits (way : Way) (share : Share) (memo : Memos) : Type 0 where
  pub of_host : memo.host ≡ share.host
  pub of_hosts : memo.hosts ≡ share.hosts
  pub reduce_to_own : memo.reduce_to ≡ (opened way share).reduce_to
  pub spread_from_own : memo.spread_from ≡ (opened way share).spread_from
  pub reduce_from_masters : (peer : ℕ) → peer < memo.hosts → AreMasters share (list_at memo.reduce_from peer)
  pub spread_to_masters : (peer : ℕ) → peer < memo.hosts → AreMasters share (list_at memo.spread_to peer)

-- one memo for each host of a partition, by rising number: each fits its host's share, and both ends of
-- each link hold the same vertices in the same order, which are those of the pruned lists
pub record Agree (way : Way) (shares : List Share) (memos : List Memos) : Type 0 where
  pub each : length memos ≡ length shares
  pub fit : (host : ℕ) (share : Share) (memo : Memos) → slice_get shares host ≡ Some share → slice_get memos host ≡ Some memo → Fits way share memo
  pub reduce_from : (host peer : ℕ) (memo : Memos) → slice_get memos host ≡ Some memo → peer < length shares
      → (list_at memo.reduce_from peer).globals ≡ reduce_list (division_of way shares) peer host
  pub spread_to : (host peer : ℕ) (memo : Memos) → slice_get memos host ≡ Some memo → peer < length shares
      → (list_at memo.spread_to peer).globals ≡ broadcast_list (division_of way shares) host peer
