use Rattle.std.proofs.Common.{◌≡◌, length, map, take}
use Rattle.std.specs.List.{sum_by, range_with_len}
use Rattle.packet_table.specs.Table.{payload_of}
use Rattle.round_driver.proofs.closing.count_bytes.Given as goal

-- the payloads so far are counted
abbrev pub invariant-loop-id : goal.invariant-loop-id
invariant-loop-id l = l.bytes ≡ sum_by length (take l.id (map (payload_of l.channels) (range_with_len 0 (length l.channels.specs))))
