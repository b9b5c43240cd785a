-- How many hosts there may be.
use Rattle.std.specs.Prelude.{ℕ, ◌≤◌}

-- hosts are the numbers below `hosts`
pub record IsHostCount (hosts : ℕ) : Type 0 where
  pub some_host : 1 ≤ hosts
  pub few_hosts : hosts ≤ 64
