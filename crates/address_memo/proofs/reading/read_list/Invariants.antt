use Rattle.list_laws.specs.LittleEndian.{whole_numbers}
use Rattle.address_memo.proofs.Masters.{IsReadTo}
use Rattle.address_memo.proofs.reading.read_list.Given as goal

-- the ids before the turn are read
abbrev pub invariant-loop-i : goal.invariant-loop-i
invariant-loop-i l = IsReadTo l.graph (whole_numbers 4 l.text) l.locals.items l.globals.items l.i l.low
