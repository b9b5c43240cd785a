-- For how many picks a run asks.
use Rattle.std.specs.Prelude.{ℕ, ◌+◌, ◌*◌}
use Rattle.graph_division.specs.Division.{Division}
use Rattle.memo_exchange.specs.Asks.{exchange_asks}
use Rattle.cluster_laws.specs.Tally.{packets_of}

-- those of a round: two for each host, and one for each packet
abbrev pub round_asks : Division → ℕ
round_asks division = 2 * division.hosts + packets_of division

-- those of the exchange of lists, and then of so many rounds
abbrev pub asks : Division → (rounds : ℕ) → ℕ
asks division rounds = exchange_asks division + rounds * round_asks division
