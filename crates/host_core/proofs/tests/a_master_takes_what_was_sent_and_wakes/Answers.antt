use Rattle.std.proofs.Common.{ap, ◌∙◌}
use Rattle.std.proofs.lemmas.Bool.{both_ways}
use Rattle.address_memo.specs.Memos.{Memos, list_at}
use Rattle.cluster_laws.specs.Channels.{is_needed}
use Rattle.host_core.proofs.tests.a_master_takes_what_was_sent_and_wakes.Goals as goal

-- the host sends no broadcasts
pub spread-requires-clause-ready : goal.spread-requires-clause-ready
spread-requires-clause-ready g c = λ to needed.
    let same = ap (λ (memo : Memos). is_needed (list_at memo.spread_to to).globals) (c.take_reduce.ensures.stays.same_memo ∙ c.compute.ensures.stays.same_memo) in
    absurd (both_ways (is_needed (list_at c.take_reduce.new.self.memo.spread_to to).globals) (same ∙ c.in_ok-host.ensures.no_broadcasts to) needed)
