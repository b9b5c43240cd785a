use Rattle.address_memo.proofs.Fitting.{memos_fit}
use Rattle.address_memo.proofs.laws.memos_fit.Goals as goal

pub returns : goal.returns
returns c = memos_fit
