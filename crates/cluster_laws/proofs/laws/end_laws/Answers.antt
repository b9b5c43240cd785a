use Rattle.cluster_laws.proofs.Ending.{nothing_left, over_where_nothing_left, over_is_end, end_is_over, over_is_done}
use Rattle.cluster_laws.proofs.laws.end_laws.Goals as goal

pub returns-clause-end : goal.returns-clause-end
returns-clause-end g c run rounds cluster fact stands =
    ((end_is_over run fact rounds cluster stands, over_is_end run fact rounds cluster stands), (over_where_nothing_left run fact rounds cluster stands, nothing_left run fact rounds cluster stands))

pub returns-clause-done : goal.returns-clause-done
returns-clause-done g c run rounds h cluster fact stands over within = over_is_done run fact rounds cluster stands over h within
