-- Which mirrors a host has, and the pruned lists that pairs of hosts agree on: a mirror to which no arc
-- of its host leads has nothing to send, and one from which none starts needs no news.
use Rattle.std.specs.Prelude.{ℕ, ◌==◌, Bool, not, ◌&&◌, ◌||◌, List}
use Rattle.std.specs.List.{filter, list_any, range_with_len}
use Rattle.graph_division.specs.Division.{Division}

-- a vertex is read on a host: one of the host's arcs starts there
abbrev pub is_readable : Division → (host v : ℕ) → Bool
is_readable division host v = list_any (λ arc. arc.tail == v) (division.share host)

-- a vertex is written on a host: one of the host's arcs leads there
abbrev pub is_writable : Division → (host v : ℕ) → Bool
is_writable division host v = list_any (λ arc. arc.head == v) (division.share host)

-- a vertex has a mirror on a host: it is an end of one of the host's arcs, and its master is elsewhere
abbrev pub is_mirror : Division → (host v : ℕ) → Bool
is_mirror division host v =
    not (division.master v == host) && (is_readable division host v || is_writable division host v)

-- the vertices with a master on one host and a mirror on another that is written there; they rise
abbrev pub reduce_list : Division → (from to : ℕ) → List ℕ
reduce_list division from to =
    filter (λ v. division.master v == to && (is_mirror division from v && is_writable division from v)) (range_with_len 0 division.nodes)

-- the vertices with a master on one host and a mirror on another that is read there; they rise
abbrev pub broadcast_list : Division → (from to : ℕ) → List ℕ
broadcast_list division from to =
    filter (λ v. division.master v == from && (is_mirror division to v && is_readable division to v)) (range_with_len 0 division.nodes)
