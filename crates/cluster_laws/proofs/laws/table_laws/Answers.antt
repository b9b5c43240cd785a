use Rattle.cluster_laws.proofs.Tables.{enabled_is, picks, bytes_are, table_steps}
use Rattle.cluster_laws.proofs.laws.table_laws.Goals as goal

pub returns-clause-enabled : goal.returns-clause-enabled
returns-clause-enabled g c run spare table fits = enabled_is run spare table fits

pub returns-clause-picks : goal.returns-clause-picks
returns-clause-picks g c run spare table place none = picks run spare table place none

pub returns-clause-step : goal.returns-clause-step
returns-clause-step g c run rounds spare event table new fits step = table_steps run rounds spare event table new fits step

pub returns-clause-bytes : goal.returns-clause-bytes
returns-clause-bytes g c run spare table fits = bytes_are run spare table fits
