use Rattle.std.proofs.Common.{◌≡◌, ◌++◌, take}
use Rattle.list_laws.specs.LittleEndian.{le_text}
use Rattle.address_memo.proofs.number_text.push_numbers.Given as goal

-- the numbers so far are written
abbrev pub invariant-loop-number : goal.invariant-loop-number
invariant-loop-number l = l.text.items ≡ l.fn.text.items ++ le_text 4 (take l.number-index l.numbers)
