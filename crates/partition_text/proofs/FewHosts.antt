-- The hosts of a partition whose hosts agreed on their lists.
use Rattle.std.proofs.Common.{◌≡◌, ◌∙◌, ℕ, ◌≤◌, ◌<◌, List, length, slice_get, Some, arith}
use Rattle.list_laws.proofs.Places.{element_at}
use Rattle.graph_model.specs.declared.edge.Way.{Way}
use Rattle.graph_division.specs.Shares.{Share}
use Rattle.graph_division.specs.Partition.{IsPartition}
use Rattle.address_memo.specs.Memos.{Memos, Agree}

-- there are no more than 64
pub few_hosts : (shares : List Share) → IsPartition shares → length shares ≤ 64
few_hosts shares partition =
    let first = element_at shares 0 (let some = partition.some_host in omega arith) in
    let of_first = partition.by_host 0 first.0 first.1 in
    let few = of_first.is_share.few_hosts in
    let count = of_first.of_hosts in
    omega arith

-- a memo has lists with each of them
pub lists_with_each : (way : Way) (shares : List Share) (memos : List Memos) (host : ℕ) (memo : Memos) → IsPartition shares → Agree way shares memos → slice_get memos host ≡ Some memo → host < length shares → memo.hosts ≡ length shares
lists_with_each way shares memos host memo partition agree at within =
    let share = element_at shares host within in
    (agree.fit host share.0 memo share.1 at).of_hosts ∙ (partition.by_host host share.0 share.1).of_hosts
