use Rattle.reduce_laws.proofs.Combining.{parts_combine, shares_combine}
use Rattle.reduce_laws.proofs.Reordering.{order_is_free}
use Rattle.reduce_laws.proofs.laws.combined_laws.Goals as goal

pub returns-clause-order : goal.returns-clause-order
returns-clause-order g c = order_is_free g.met.R.Reduction.laws g.row.A.Denot

pub returns-clause-parts : goal.returns-clause-parts
returns-clause-parts g c = parts_combine g.met.R.Reduction.laws g.row.A.Denot

pub returns-clause-shares : goal.returns-clause-shares
returns-clause-shares g c = shares_combine g.met.R.Reduction.laws g.row.A.Denot g.row.B.Denot
