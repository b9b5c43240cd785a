use Rattle.std.proofs.Common.{◌≡◌, ℕ, length, nat_lt}
use Rattle.list_laws.specs.Members.{has_member}
use Rattle.host_fields.proofs.starting.start_news.Given as goal

-- the masters so far are in the set, and none else
abbrev pub invariant-loop-lid : goal.invariant-loop-lid
invariant-loop-lid l = record {
  length : length l.news ≡ l.proxies;
  members : (k : ℕ) → has_member l.news k ≡ nat_lt k l.lid;
}
