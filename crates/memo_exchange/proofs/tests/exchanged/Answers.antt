use Rattle.std.proofs.Common.{◌≡◌, ◌∙◌, All, sym, subst}
use Rattle.std.proofs.lemmas.Result.{IfOk-weaker}
use Rattle.graph_model.specs.declared.edge.Way.TheVariants.{Outward}
use Rattle.graph_division.specs.Partition.{IsPartition}
use Rattle.address_memo.specs.Memos.{Agree, Memos}
use Rattle.memo_exchange.proofs.TwoHosts.{memos_of_two}
use Rattle.memo_exchange.proofs.tests.exchanged.Goals as goal

pub returns-clause-hosts : goal.returns-clause-hosts
returns-clause-hosts g c =
    IfOk-weaker c.exchange.result (λ memos. Agree Outward c.deref.result.now memos.items) (λ memos. All (λ (m : Memos). m.hosts ≡ 2) memos.items)
    (λ memos agree. memos_of_two Outward c.deref.result.now memos.items (subst IsPartition (sym c.deref.ensures.value) c.in_ok-graphs.ensures.partition) (c.deref.ensures.len ∙ c.in_ok-graphs.ensures.count) agree)
    c.exchange.ensures.memos
