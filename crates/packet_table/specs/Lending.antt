-- What a table of channels ends as, where a buffer of it is lent.
use Rattle.std.specs.Prelude.{ℕ, List}
use Rattle.std.specs.Borrow.{Lends, MutBor, Fml, u8, Array}
use Rattle.packet_table.specs.Table.{Table, written}
use Rattle.packet_table.specs.contracts.channels.Channels.{the_row}

-- once the borrow ends, the channel's buffer is the bytes that the borrowed slice had last
abbrev pub LendsBuffer : MutBor Table → ℕ → MutBor (List ℕ) → Fml
LendsBuffer table id slice = Lends the_row (Array u8 0) table slice (written table.now id)
