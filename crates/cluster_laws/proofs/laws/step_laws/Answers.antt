use Rattle.cluster_laws.proofs.InTime.{reduce_in_time, broadcast_in_time}
use Rattle.cluster_laws.proofs.Keeping.{step_keeps}
use Rattle.cluster_laws.proofs.Ending.{fresh_stands_between}
use Rattle.cluster_laws.proofs.laws.step_laws.Goals as goal

pub returns-clause-reduces : goal.returns-clause-reduces
returns-clause-reduces g c run rounds from to cluster stands flies = reduce_in_time run rounds cluster stands from to flies

pub returns-clause-broadcasts : goal.returns-clause-broadcasts
returns-clause-broadcasts g c run rounds from to cluster fact stands flies = broadcast_in_time run fact rounds cluster stands from to flies

pub returns-clause-step : goal.returns-clause-step
returns-clause-step g c run rounds event cluster new fact stands step = step_keeps run fact rounds cluster stands event new step

pub returns-clause-fresh : goal.returns-clause-fresh
returns-clause-fresh g c run cluster fact fresh named still = fresh_stands_between run fact cluster fresh named still
