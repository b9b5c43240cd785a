-- Masters as bounds: where the vertices of each host begin, and where those of the last host end.
use Rattle.std.specs.Prelude.{◌≡◌, ℕ, ◌-◌, ◌≤◌, nat_le, List, length, map, slice_index, count_by}
use Rattle.std.specs.List.{range_with_len}
use Rattle.std.specs.List.Sorted.{IsNonDecreasing}
use Rattle.cusp_rules.specs.Assignment.{Assignment}

-- there is one bound a host, and one more
abbrev pub hosts_of : List ℕ → ℕ
hosts_of bounds = length bounds - 1

-- the vertices are the numbers below the last bound
abbrev pub end_of : List ℕ → ℕ
end_of bounds = slice_index bounds (hosts_of bounds)

-- what holds of the bounds
pub record IsBounds (bounds : List ℕ) : Type 0 where
  pub some_host : 2 ≤ length bounds
  pub few_hosts : length bounds ≤ 65
  pub begins : slice_index bounds 0 ≡ 0
  pub rises : IsNonDecreasing bounds
  pub ends : end_of bounds ≤ 268_435_456

-- the last host whose vertices begin no later than v
abbrev pub host_at : List ℕ → ℕ → ℕ
host_at bounds v = count_by (λ bound. nat_le bound v) bounds - 1

-- the assignment that the bounds stand for
abbrev pub assignment_of : List ℕ → Assignment
assignment_of bounds = record { hosts = hosts_of bounds; masters = map (host_at bounds) (range_with_len 0 (end_of bounds)) }
