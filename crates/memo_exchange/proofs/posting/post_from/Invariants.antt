use Rattle.std.proofs.Common.{◌≡◌, ◌++◌, ◌-◌, map}
use Rattle.std.specs.List.{filter, range_with_len}
use Rattle.graph_division.specs.Shares.{seen}
use Rattle.memo_exchange.specs.Asks.{has_news}
use Rattle.memo_exchange.specs.Letters.{letter_to}
use Rattle.memo_exchange.proofs.posting.post_from.Given as goal

-- the letters to the peers so far are posted
abbrev pub invariant-loop-to : goal.invariant-loop-to
invariant-loop-to l = l.mail.items ≡ l.fn.mail.items ++ map (letter_to l.way l.graph) (filter (has_news (seen l.way l.graph) l.graph.host) (range_with_len 0 (l.to - 0)))
