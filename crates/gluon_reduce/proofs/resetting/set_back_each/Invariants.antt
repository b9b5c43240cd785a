use Rattle.std.proofs.Common.{◌≡◌, ℕ, cond, take, get_or}
use Rattle.list_laws.specs.Among.{is_among}
use Rattle.gluon_reduce.proofs.resetting.set_back_each.Given as goal

-- the proxies that were passed have the identity
abbrev pub invariant-loop-local : goal.invariant-loop-local
invariant-loop-local g l =
    (k : ℕ) (d : g.row.R-Item.Denot) → get_or l.kept k d
    ≡ cond (is_among (take l.local-index l.locals) k) g.R.Reduction.reducer.identity (get_or l.initial.kept k d)
