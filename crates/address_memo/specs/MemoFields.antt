-- What the fields of a memo mean.
use Rattle.std.specs.Prelude.{length, map}
use Rattle.address_memo.specs.Memos.{Memos, AreMemos}
use Rattle.address_memo.specs.Told.{kept_or}
use Rattle.address_memo.specs.declared.memo.Memo.TheInside.{Inside}

-- there is a list for each host; where no lists are kept of the mirrors that peers broadcast to the host,
-- those of the mirrors that it reduces stand for them
abbrev pub memos_of : Inside → Memos
memos_of memo = record {
  host = memo.host;
  hosts = length memo.reduce_to.items;
  reduce_to = memo.reduce_to.items;
  spread_from = (kept_or memo.reduce_to memo.spread_from).items;
  reduce_from = map (λ lists. lists.reduce) memo.told.items;
  spread_to = map (λ lists. lists.spread) memo.told.items;
  accepted = memo.accepted.items;
}

abbrev pub AreMemoFields : Inside → Type 0
AreMemoFields memo = AreMemos (memos_of memo)
