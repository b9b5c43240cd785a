use Rattle.std.proofs.Common.{◌≡◌, ◌+◌, ◌*◌, ◌≤◌, ◌++◌, length, drop}
use Rattle.answer_writer.specs.Lines.{spaced_numbers}
use Rattle.answer_writer.proofs.digits.put_spaced_numbers.Given as goal

-- the numbers from `left` on stand there, and there is room for those before
abbrev pub invariant-loop-left : goal.invariant-loop-left
invariant-loop-left l = record {
  in_range : l.left ≤ length l.numbers;
  room : l.left * 21 ≤ l.start;
  below : l.start ≤ l.end;
  start : l.end + l.left * 21 ≤ l.start + length l.numbers * 21;
  written : drop l.start l.line ≡ spaced_numbers (drop l.left l.numbers) ++ drop l.end l.fn.line;
}

abbrev pub decreases-loop-left : goal.decreases-loop-left
decreases-loop-left l = l.left
