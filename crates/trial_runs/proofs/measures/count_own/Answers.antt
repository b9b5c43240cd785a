use Rattle.std.proofs.Common.{true, false, None, get_or, sym, ◌∙◌, arith}
use Rattle.trial_runs.proofs.Counts.{own_one_more}
use Rattle.trial_runs.proofs.measures.count_own.Goals as goal
use Rattle.trial_runs.proofs.measures.count_own.Goals.{then-eq, else-eq}

pub loop-v-preserved : goal.loop-v-preserved
loop-v-preserved c =
    elim c.if-eq.branch [
      | then-eq w ↦ record {
        so_far = own_one_more (λ v. get_or c.args.labels.now v None) c.loop-v.v c.loop-v.count c.if-eq.count true c.loop-v.invariant.so_far (sym w.if-eq.true ∙ c.eq.ensures) w.count-is;
        few = omega arith;
      }
      | else-eq w ↦ record {
        so_far = own_one_more (λ v. get_or c.args.labels.now v None) c.loop-v.v c.loop-v.count c.if-eq.count false c.loop-v.invariant.so_far (sym w.if-eq.false ∙ c.eq.ensures) (omega arith);
        few = omega arith;
      }
    ]
