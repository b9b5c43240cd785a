use Rattle.std.proofs.Common.{◌≡◌, ℕ, ◌&&◌, cond, get_or, length}
use Rattle.std.specs.Prelude.{nat_le, nat_lt}
use Rattle.gluon_reduce.proofs.resetting.set_back_row.Given as goal

-- the proxies before the place have the identity
abbrev pub invariant-loop-place : goal.invariant-loop-place
invariant-loop-place g l = record {
  long : length l.kept ≡ length l.initial.kept;
  kept : (k : ℕ) (d : g.row.R-Item.Denot) → get_or l.kept k d
      ≡ cond (nat_le l.first k && nat_lt k l.place) g.R.Reduction.reducer.identity (get_or l.initial.kept k d);
}
