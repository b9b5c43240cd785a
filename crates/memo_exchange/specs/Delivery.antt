-- What the delivery of one payload needs, and what it does.
use Rattle.std.specs.Prelude.{◌≡◌, ◌<◌, ℕ, List, false, Some, slice_get, slice_set}
use Rattle.list_laws.specs.Members.{has_member}
use Rattle.graph_division.specs.Shares.{Share}
use Rattle.address_memo.specs.Memos.{Memos, Proxies, AreMasters, with_accepted}
use Rattle.address_memo.specs.Checks.{AreMasterIds}
use Rattle.address_memo.specs.Payload.{payload}
use Rattle.memo_exchange.specs.Letters.{Sent}

-- a payload can be delivered: it names masters of the host to which it goes, whose memo has accepted nothing
-- from its sender
pub record CanDeliver (shares : List Share) (memos : List Memos) (sent : Sent) : Type 0 where
  pub share : Share
  pub share_at : slice_get shares sent.to ≡ Some share
  pub memo : Memos
  pub memo_at : slice_get memos sent.to ≡ Some memo
  pub peer : sent.from < memo.hosts
  pub first : has_member memo.accepted sent.from ≡ false
  pub reduce : List ℕ
  pub spread : List ℕ
  pub told : AreMasterIds share reduce
  pub wanted : AreMasterIds share spread
  pub says : sent.bytes ≡ payload reduce spread

-- a payload is delivered: the memo of the host to which it goes has accepted its two lists
pub record Delivers (shares : List Share) (old new : List Memos) (sent : Sent) : Type 0 where
  pub share : Share
  pub share_at : slice_get shares sent.to ≡ Some share
  pub memo : Memos
  pub memo_at : slice_get old sent.to ≡ Some memo
  pub reduce : Proxies
  pub spread : Proxies
  pub told : AreMasters share reduce
  pub wanted : AreMasters share spread
  pub says : sent.bytes ≡ payload reduce.globals spread.globals
  pub accepted : new ≡ slice_set old sent.to (with_accepted memo sent.from reduce spread)
