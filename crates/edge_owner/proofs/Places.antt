-- Rows and columns of hosts.
use Rattle.std.proofs.Common.{◌≡◌, ℕ, ◌+◌, ◌*◌, ◌/◌, ◌%◌, ◌<◌, nat_lt, cond, true, false, sym, ap, ◌∙◌, arith}
use Rattle.std.proofs.lemmas.Nat.{div_below, div-add-mod', div-mul-add, mod-mul-add, mod_below, mul-add-lt}
use Rattle.edge_owner.specs.Grid.{columns_of, row_of, column_of, host_in}
use Rattle.edge_owner.specs.Owner.{owner_of}
use Rattle.edge_owner.specs.declared.owner_rule.OwnerRule.{OwnerRule}
use Rattle.edge_owner.specs.declared.owner_rule.OwnerRule.TheVariants.{Source, Dest, Hybrid, Cartesian}
use Rattle.edge_owner.proofs.Columns.{IsGrid-columns_of, columns_positive}

module _ (hosts : ℕ) where
  -- the host in the row of one host and in the column of another
  pub crossing_below : (a b : ℕ) → a < hosts → host_in hosts (row_of hosts a) (column_of hosts b) < hosts
  crossing_below a b here =
      let columns = columns_of hosts in
      let some : 0 < hosts = omega arith in
      let positive = columns_positive hosts some in
      let grid = IsGrid-columns_of hosts some in
      let row : a / columns < hosts / columns = div_below a columns (hosts / columns) positive (omega (arith, grid.full)) in
      let place = mul-add-lt (a / columns) columns (b % columns) (hosts / columns) row (mod_below b columns positive) in
      omega (arith, place, grid.full)

  -- its row
  pub row_of-crossing : (a b : ℕ) → 0 < hosts → row_of hosts (host_in hosts (row_of hosts a) (column_of hosts b)) ≡ row_of hosts a
  row_of-crossing a b some = div-mul-add (row_of hosts a) (columns_of hosts) (column_of hosts b) (mod_below b (columns_of hosts) (columns_positive hosts some))

  -- its column
  pub column_of-crossing : (a b : ℕ) → 0 < hosts → column_of hosts (host_in hosts (row_of hosts a) (column_of hosts b)) ≡ column_of hosts b
  column_of-crossing a b some = mod-mul-add (row_of hosts a) (columns_of hosts) (column_of hosts b) (mod_below b (columns_of hosts) (columns_positive hosts some))

  -- a host is the one in its row and its column
  same_place : (a b : ℕ) → row_of hosts a ≡ row_of hosts b → column_of hosts a ≡ column_of hosts b → a ≡ b
  same_place a b row column =
      let columns = columns_of hosts in
      sym (div-add-mod' a columns) ∙ ap (λ r. r * columns + a % columns) row ∙ ap (λ c. b / columns * columns + c) column ∙ div-add-mod' b columns

-- the owner of an edge is a host
pub owner-below : (rule : OwnerRule) (hosts ms md outdegree : ℕ) → ms < hosts → md < hosts → owner_of rule hosts ms md outdegree < hosts
owner-below Source hosts ms md outdegree source destination = source
owner-below Dest hosts ms md outdegree source destination = destination
owner-below (Hybrid threshold) hosts ms md outdegree source destination =
    elim (nat_lt threshold outdegree) as (λ b. cond b md ms < hosts) [ true ↦ destination | false ↦ source ]
owner-below Cartesian hosts ms md outdegree source destination = crossing_below hosts ms md source

-- a host that owns an edge out of a vertex and an edge into it is the vertex's master
pub both_ways-master : (hosts host m to from : ℕ) → m < hosts → host_in hosts (row_of hosts m) (column_of hosts to) ≡ host → host_in hosts (row_of hosts from) (column_of hosts m) ≡ host → host ≡ m
both_ways-master hosts host m to from here out into =
    let some : 0 < hosts = omega arith in
    let row : row_of hosts host ≡ row_of hosts m = ap (row_of hosts) (sym out) ∙ row_of-crossing hosts m to some in
    let column : column_of hosts host ≡ column_of hosts m = ap (column_of hosts) (sym into) ∙ column_of-crossing hosts from m some in
    same_place hosts host m row column
