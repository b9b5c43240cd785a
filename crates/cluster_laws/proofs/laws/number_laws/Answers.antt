use Rattle.cluster_laws.proofs.Numbering.{has_number, at_number, is_channel_at, number_at, channels_rise, events_by_number}
use Rattle.cluster_laws.proofs.laws.number_laws.Goals as goal

pub returns-clause-rise : goal.returns-clause-rise
returns-clause-rise c run = channels_rise run

pub returns-clause-channels : goal.returns-clause-channels
returns-clause-channels c run channel is = (has_number run channel is, at_number run channel (has_number run channel is))

pub returns-clause-numbers : goal.returns-clause-numbers
returns-clause-numbers c run number within = (is_channel_at run number within, number_at run number within)

pub returns-clause-events : goal.returns-clause-events
returns-clause-events c run number = events_by_number run number
