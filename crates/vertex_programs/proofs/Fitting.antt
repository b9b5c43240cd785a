-- The fares of the three programs fit.
use Rattle.std.proofs.Common.{◌≡◌, ℕ, ◌-◌, ◌*◌, ◌<◌, ◌≤◌, ◌^◌, ◌==◌, cond, Some, None, arith}
use Rattle.std.proofs.lemmas.Bool.Decides.{nat_tests}
use Rattle.std.proofs.Math.Nat.{mul-le-mul_right}
use Rattle.vertex_programs.specs.Laws.{ProgramsFit}

-- a root starts with nothing
root_start : (root v begin : ℕ) → cond (v == root) (Some 0) None ≡ Some begin → begin ≤ 0
root_start root v begin h = grind (arith, nat_tests)

-- a node starts with its number
own_start : (nodes v begin : ℕ) → v < nodes → Some v ≡ Some begin → begin ≤ nodes
own_start nodes v begin below h = grind arith

pub programs_fit : ProgramsFit
programs_fit nodes root few = (
  record { most_start = 0; most_cost = 1; starts = λ v begin below is. root_start root v begin is; costs = λ weight fits. omega arith; room = omega arith },
  record { most_start = 0; most_cost = 2 ^ 32 - 1; starts = λ v begin below is. root_start root v begin is; costs = λ weight fits. omega arith; room = (let most : nodes * (2 ^ 32 - 1) ≤ 2 ^ 24 * (2 ^ 32 - 1) = mul-le-mul_right (2 ^ 32 - 1) few in omega arith) },
  record { most_start = nodes; most_cost = 0; starts = λ v begin below is. own_start nodes v begin below is; costs = λ weight fits. omega arith; room = omega arith },
)
