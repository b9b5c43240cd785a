-- The table of columns is right.
use Rattle.std.proofs.Common.{◌≡◌, ℕ, ◌+◌, ◌-◌, ◌≤◌, Bool, true, false, slice_index, refl, ap, ◌∙◌, arith}
use Rattle.std.specs.Prelude.{◌==◌}
use Rattle.std.specs.List.{list_all, range_with_len}
use Rattle.std.proofs.lemmas.Bool.{both_ways, eqb-true}
use Rattle.std.proofs.lemmas.List.Folds.{list_all_at}
use Rattle.std.proofs.lemmas.List.FromFn.{length-range_with_len, get_or-range_with_len}
use Rattle.edge_owner.specs.Grid.{columns_of}
use Rattle.edge_owner.specs.declared.host_grid.TheConstants.{COLUMNS}

-- whether the entry for so many hosts is right
is_right : ℕ → Bool
is_right hosts = slice_index COLUMNS hosts == columns_of hosts

-- each entry is
all_right : list_all is_right (range_with_len 1 64) ≡ true
unfolding is_right columns_of
all_right = refl

-- the entry for 1 to 64 hosts
pub column_entry : (hosts : ℕ) → 1 ≤ hosts → hosts ≤ 64 → slice_index COLUMNS hosts ≡ columns_of hosts
unfolding is_right
column_entry hosts some few =
    elim (is_right hosts) as (λ b. is_right hosts ≡ b → slice_index COLUMNS hosts ≡ columns_of hosts) [
      | true ↦ λ right. eqb-true (slice_index COLUMNS hosts) (columns_of hosts) right
      | false ↦ λ wrong.
          let place = get_or-range_with_len 1 64 (hosts - 1) 0 (omega arith) in
          let same : 1 + (hosts - 1) ≡ hosts = omega arith in
          let not_all = list_all_at is_right (range_with_len 1 64) (hosts - 1) 0 (omega (arith, length-range_with_len 1 64)) (ap is_right (place ∙ same) ∙ wrong) in
          absurd (both_ways (list_all is_right (range_with_len 1 64)) not_all all_right)
    ] refl
