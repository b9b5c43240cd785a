-- What hosts tell each other before the first round, as payloads on their way.
use Rattle.std.specs.Prelude.{ℕ, List, map}
use Rattle.std.specs.List.{filter, range_with_len}
use Rattle.graph_model.specs.declared.edge.Way.{Way}
use Rattle.graph_division.specs.Shares.{Share, seen}
use Rattle.address_memo.specs.Memos.{own_reduce, own_spread}
use Rattle.address_memo.specs.Payload.{payload}
use Rattle.memo_exchange.specs.Asks.{has_news}

-- a payload on its way from one host to another
pub record Sent : Type 0 where
  pub from : ℕ
  pub to : ℕ
  pub bytes : List ℕ

-- what a host tells another
abbrev pub letter_to : Way → Share → (to : ℕ) → Sent
letter_to way share to = record {
  from = share.host;
  to = to;
  bytes = payload (own_reduce way share to) (own_spread way share to);
}

-- all that a host tells, by rising receiver
abbrev pub letters_of : Way → Share → List Sent
letters_of way share = map (letter_to way share) (filter (has_news (seen way share) share.host) (range_with_len 0 share.hosts))
