use Rattle.trial_runs.proofs.Counts.{told_one_more}
use Rattle.trial_runs.proofs.answers.answers_in.Goals as goal

pub loop-v-preserved : goal.loop-v-preserved
loop-v-preserved g c = told_one_more _ c.loop-v.v _ _ _ c.loop-v.invariant c.answer_at.ensures c.in_ok-push.ensures.items
