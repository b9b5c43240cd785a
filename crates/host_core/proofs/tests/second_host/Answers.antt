use Rattle.std.proofs.Common.{ap, ◌∙◌}
use Rattle.address_memo.specs.Memos.{Memos, list_at}
use Rattle.cluster_laws.specs.Channels.{is_needed}
use Rattle.host_core.proofs.tests.second_host.Goals as goal

pub returns-clause-no_reduces : goal.returns-clause-no_reduces
returns-clause-no_reduces c = λ to. ap (λ (memo : Memos). is_needed (list_at memo.reduce_to to).globals) c.in_ok-new.ensures.memo ∙ c.takes_two.ensures.no_reduces c.if-not-takes_two.false to

pub returns-clause-no_broadcasts : goal.returns-clause-no_broadcasts
returns-clause-no_broadcasts c = λ to. ap (λ (memo : Memos). is_needed (list_at memo.spread_to to).globals) c.in_ok-new.ensures.memo ∙ c.takes_two.ensures.no_broadcasts c.if-not-takes_two.false to
