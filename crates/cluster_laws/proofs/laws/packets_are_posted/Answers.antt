use Rattle.cluster_laws.proofs.Posting.{reduces_are_posted, broadcasts_are_posted}
use Rattle.cluster_laws.proofs.laws.packets_are_posted.Goals as goal

pub returns-clause-reduces : goal.returns-clause-reduces
returns-clause-reduces g c = reduces_are_posted

pub returns-clause-broadcasts : goal.returns-clause-broadcasts
returns-clause-broadcasts g c = broadcasts_are_posted
