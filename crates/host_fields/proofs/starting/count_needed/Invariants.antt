use Rattle.std.proofs.Common.{◌≡◌, ◌≤◌}
use Rattle.std.specs.List.{count_by, range_with_len}
use Rattle.cluster_laws.specs.Channels.{is_needed}
use Rattle.address_memo.specs.Kinds.{list_for}
use Rattle.host_fields.proofs.starting.count_needed.Given as goal

-- as many of the peers so far have a list that is not empty
abbrev pub invariant-loop-peer : goal.invariant-loop-peer
invariant-loop-peer l = record {
  count : l.count ≡ count_by (λ peer. is_needed (list_for l.memo l.kind peer).globals) (range_with_len 0 l.peer);
  few : l.count ≤ l.peer;
}
