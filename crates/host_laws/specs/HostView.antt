-- One host as contracts see it. Lists go by the local numbers of its proxies, of which the masters come
-- first; what was taken goes by the number of the host that sent it.
use Rattle.std.specs.Prelude.{◌≡◌, ◌<◌, ◌≤◌, ◌==◌, ℕ, Bool, nat_lt, List, length, slice_index, take}
use Rattle.std.specs.List.{filter, range_with_len}
use Rattle.graph_division.specs.Division.{Division}

-- a host's fields
pub record HostView (Program Item State Shown : Type 0) : Type 0 where
  pub program : Program
  pub host : ℕ
  -- the vertex of each proxy
  pub vertices : List ℕ
  -- how many of the proxies are masters
  pub masters : ℕ
  -- the states of masters
  pub states : List State
  -- what proxies show in this round, and in the next
  pub shown : List Shown
  pub next : List Shown
  -- the sum of a master, and what a mirror keeps
  pub items : List Item
  -- who is awake in this round, and in the next
  pub awake : List Bool
  pub awake_next : List Bool
  -- what the host has done in this round
  pub has_computed : Bool
  pub has_spread : Bool
  pub took_reduce : List Bool
  pub took_broadcast : List Bool

-- the vertex of a proxy
abbrev pub vertex : {Program Item State Shown : Type 0} → HostView Program Item State Shown → ℕ → ℕ
vertex view l = slice_index view.vertices l

-- the proxies of a host are vertices of a division, and its masters are those that it masters
pub record HoldsShare {Program Item State Shown : Type 0} (division : Division) (view : HostView Program Item State Shown) : Type 0 where
  pub is_host : view.host < division.hosts
  pub are_nodes : (l : ℕ) → l < length view.vertices → vertex view l < division.nodes
  pub masters_first : (l : ℕ) → l < length view.vertices → (division.master (vertex view l) == view.host) ≡ nat_lt l view.masters
  pub masters_fit : view.masters ≤ length view.vertices
  -- the masters are all vertices that are mastered here, and they rise
  pub masters_are : take view.masters view.vertices ≡ filter (λ v. division.master v == view.host) (range_with_len 0 division.nodes)
  pub reduce_by_host : length view.took_reduce ≡ division.hosts
  pub broadcast_by_host : length view.took_broadcast ≡ division.hosts
