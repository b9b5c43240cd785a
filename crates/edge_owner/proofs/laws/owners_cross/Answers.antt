use Rattle.edge_owner.proofs.Places.{row_of-crossing, column_of-crossing}
use Rattle.edge_owner.proofs.laws.owners_cross.Goals as goal

pub returns : goal.returns
returns c = λ hosts ms md outdegree some. (row_of-crossing hosts ms md some, column_of-crossing hosts ms md some)
