-- Hosts in a grid, by rows.
use Rattle.std.specs.Prelude.{◌≡◌, ℕ, ◌+◌, ◌*◌, ◌/◌, ◌%◌, ◌≤◌, ◌&&◌, ◌==◌, nat_le, find, unwrap_or}
use Rattle.std.specs.List.{range_with_len}

-- the grid of so many hosts has this many rows and columns
pub record IsGrid (hosts rows columns : ℕ) : Type 0 where
  -- each place has one host
  pub full : rows * columns ≡ hosts
  -- there are no fewer columns than rows: their square reaches the number of hosts
  pub wide : hosts ≤ columns * columns
  -- no other such grid has fewer columns
  pub narrowest : (r c : ℕ) → r * c ≡ hosts → hosts ≤ c * c → columns ≤ c

-- the number of columns: the least that divides the number of hosts and whose square is no smaller
unfoldable pub columns_of : ℕ → ℕ
columns_of hosts = unwrap_or (find (λ columns. (hosts % columns == 0) && nat_le hosts (columns * columns)) (range_with_len 1 hosts)) hosts

-- the row of a host
abbrev pub row_of : ℕ → ℕ → ℕ
row_of hosts host = host / columns_of hosts

-- the column of a host
abbrev pub column_of : ℕ → ℕ → ℕ
column_of hosts host = host % columns_of hosts

-- the host in a row and a column
abbrev pub host_in : ℕ → ℕ → ℕ → ℕ
host_in hosts row column = row * columns_of hosts + column
