-- The mirrors of a host that take part in a leg: those that are written and go to their masters, or those
-- that are read and come from there.
use Rattle.std.specs.Prelude.{ℕ, Bool, List}
use Rattle.graph_model.specs.declared.edge.Way.{Way}
use Rattle.graph_division.specs.Lists.{is_readable, is_writable}
use Rattle.graph_division.specs.Shares.{Share, seen}
use Rattle.address_memo.specs.Memos.{own_reduce, own_spread}
use Rattle.address_memo.specs.declared.leg.Leg.{Leg}
use Rattle.address_memo.specs.declared.leg.Leg.TheVariants.{Reduce, Spread}

-- whether a vertex takes part on this host
abbrev pub is_taken : Leg → Way → Share → (v : ℕ) → Bool
is_taken Reduce way share v = is_writable (seen way share) share.host v
is_taken Spread way share v = is_readable (seen way share) share.host v

-- the host's own mirrors that take part and have their masters on a peer
abbrev pub own_of : Leg → Way → Share → (peer : ℕ) → List ℕ
own_of Reduce way share peer = own_reduce way share peer
own_of Spread way share peer = own_spread way share peer
