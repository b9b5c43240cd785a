use Rattle.std.proofs.Common.{refl}
use Rattle.cluster_laws.specs.Cluster.{yet_to_come}
use Rattle.cluster_laws.proofs.Ending.{no_steps}
use Rattle.cluster_laws.proofs.Possible.{events_happen, rounds_end}
use Rattle.cluster_laws.proofs.laws.rounds_end.Goals as goal

pub returns-clause-happen : goal.returns-clause-happen
returns-clause-happen g c run rounds event cluster fact stands whole may = events_happen run fact rounds event cluster stands whole may

pub returns-clause-end : goal.returns-clause-end
returns-clause-end g c run rounds first fact between whole =
    rounds_end run fact rounds first between (yet_to_come run.division first) 0 first (no_steps g.P.Red.Item.Word.bytes_of g.P.Shown.Word.bytes_of run rounds first) whole refl
