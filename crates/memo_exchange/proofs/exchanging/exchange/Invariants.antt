use Rattle.std.proofs.Common.{◌≡◌, ◌≤◌, length}
use Rattle.std.specs.Prelude.{option_map}
use Rattle.graph_division.specs.Partition.{division_of}
use Rattle.memo_exchange.specs.Asks.{exchange_asks, asked_after}
use Rattle.memo_exchange.proofs.Underway.{IsUnderway}
use Rattle.memo_exchange.proofs.exchanging.exchange.Given as goal

-- what is not accepted yet is in the mail, and each letter in it will be asked for once
abbrev pub invariant-loop-alloc : goal.invariant-loop-alloc
invariant-loop-alloc g l = record {
  underway : IsUnderway l.fn.way l.graphs l.memos.items l.mail.items;
  few : length l.mail.items ≤ 4096;
  asked : option_map (asked_after (length l.mail.items)) (g.K.Picker.asked l.picker) ≡ option_map (asked_after (exchange_asks (division_of l.fn.way l.graphs))) (g.K.Picker.asked l.fn.picker);
  begun : g.K.Picker.begun l.picker ≡ g.K.Picker.begun l.fn.picker;
}

abbrev pub decreases-loop-alloc : goal.decreases-loop-alloc
decreases-loop-alloc g l = length l.mail.items
