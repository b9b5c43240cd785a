-- Which hosts have something to tell each other, and for how many picks an exchange asks.
use Rattle.std.specs.Prelude.{ℕ, zero, suc, Bool, not, ◌||◌, ◌==◌, length, count_by, sum_by}
use Rattle.graph_division.specs.Division.{Division, hosts_of}
use Rattle.graph_division.specs.Lists.{reduce_list, broadcast_list}
use Rattle.io_edge.specs.Faults.{count_up}

-- a host has something to tell another: mirrors that it reduces to it, or that it wants to be told by it
abbrev pub has_news : Division → (from to : ℕ) → Bool
has_news division from to =
    not (length (reduce_list division from to) == 0) || not (length (broadcast_list division to from) == 0)

-- the number of payloads of an exchange: the pairs of hosts of which the first has something to tell the second
abbrev pub exchange_asks : Division → ℕ
exchange_asks division = sum_by (λ from. count_by (has_news division from) (hosts_of division)) (hosts_of division)

-- what a count of picks comes to after so many more, as far as a count goes
abbrev pub asked_after : (picks asked : ℕ) → ℕ
asked_after zero asked = asked
asked_after (suc picks) asked = asked_after picks (count_up asked)
