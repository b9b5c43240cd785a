-- The memos of two hosts.
use Rattle.std.proofs.Common.{◌≡◌, List, length, All, ◌∙◌, arith}
use Rattle.std.proofs.lemmas.Option.{slice_get_within}
use Rattle.list_laws.proofs.Places.{element_at, All-from_slice_get}
use Rattle.graph_model.specs.declared.edge.Way.{Way}
use Rattle.graph_division.specs.Shares.{Share}
use Rattle.graph_division.specs.Partition.{IsPartition}
use Rattle.address_memo.specs.Memos.{Memos, Agree}

-- each memo of a partition of two hosts is of two hosts
pub memos_of_two : (way : Way) (shares : List Share) (memos : List Memos) → IsPartition shares → length shares ≡ 2 → Agree way shares memos → All (λ (m : Memos). m.hosts ≡ 2) memos
memos_of_two way shares memos partition two agree =
    All-from_slice_get (λ (m : Memos). m.hosts ≡ 2) memos (λ host memo at.
    let within = slice_get_within memos host memo at in
    let each = agree.each in
    let share = element_at shares host (omega arith) in
    (agree.fit host share.0 memo share.1 at).of_hosts ∙ (partition.by_host host share.0 share.1).of_hosts ∙ two)
