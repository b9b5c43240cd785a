-- The steps of the three programs of labels, and that these are lawful.
use Rattle.std.specs.Prelude.{◌≡◌, ◌<◌, ◌-◌, ◌^◌, ◌==◌, if◌then◌else◌, ℕ, Option, Some, None, refl}
use Rattle.std.proofs.Common.{arith}
use Rattle.std.proofs.lemmas.Bool.Decides.{nat_tests}
use Rattle.graph_model.specs.Least.{Fares, bfs_fares, sssp_fares, cc_fares}
use Rattle.reduce_laws.specs.NumberWords.{nat_eq_is_same}
use Rattle.reduce_laws.specs.Reducers.{least_below}
use Rattle.reduce_laws.specs.ProgramLaws.{Steps, ProgramLaws}
use Rattle.vertex_programs.specs.Labels.{number_of, label_steps, StartsBelow}

-- how many arcs lead from a root, as labels of four bytes
abbrev pub bfs_steps : ℕ → Steps ℕ ℕ ℕ
bfs_steps root = label_steps (256 ^ 4) (bfs_fares root)

-- how much the way from a root costs, as labels of eight bytes
abbrev pub sssp_steps : ℕ → Steps ℕ ℕ ℕ
sssp_steps root = label_steps (256 ^ 8) (sssp_fares root)

-- the least vertex from which a walk leads here, as labels of four bytes
abbrev pub cc_steps : Steps ℕ ℕ ℕ
cc_steps = label_steps (256 ^ 4) cc_fares

-- the number of an answer below a limit is below it
number_below : (limit : ℕ) (x : Option ℕ) → 0 < limit → ((label : ℕ) → x ≡ Some label → label < limit) → number_of (limit - 1) x < limit
number_below limit None some h = omega arith
number_below limit (Some label) some h = h label refl

-- every program of labels keeps the laws of programs
pub label_laws : (limit : ℕ) (fares : Fares) → 0 < limit → StartsBelow limit fares → ProgramLaws (λ x. x < limit) (λ x. x < limit) (λ x. x < limit) (least_below limit) (label_steps limit fares)
label_laws limit fares some starts = record {
  start_is_state = λ v h. number_below limit (fares.start v) some (λ label is. starts v label h is);
  settle_is_state = λ s x hs hx. omega arith;
  shown_is_value = λ s hs. hs;
  along_is_value = λ y weight hy hw. omega arith;
  keep_is_value = λ y hy. hy;
  same_tells = λ x y _ _. nat_eq_is_same x y;
  settle_then_identity = λ s x hs hx. omega arith;
  settle-settle = λ _ s x y hs hx hy. omega arith;
  settle-identity = λ _ s hs. omega arith;
  settle-keep = λ _ s hs. omega arith;
  keep_is_identity = λ h. absurd (cc);
}

-- walks from a root start with 0, and nowhere else
pub root_starts_below : (limit root : ℕ) (cost : ℕ → ℕ) → 0 < limit → StartsBelow limit (record { start = λ u. if u == root then Some 0 else None; cost = cost })
root_starts_below limit root cost some v begin h is = grind (arith, nat_tests)

-- walks start everywhere with the vertex's own number
pub own_starts_below : StartsBelow (256 ^ 4) cc_fares
own_starts_below v begin h is = grind arith

pub bfs_laws : (root : ℕ) → ProgramLaws (λ x. x < 256 ^ 4) (λ x. x < 256 ^ 4) (λ x. x < 256 ^ 4) (least_below (256 ^ 4)) (bfs_steps root)
bfs_laws root = label_laws (256 ^ 4) (bfs_fares root) (omega arith) (root_starts_below (256 ^ 4) root (λ weight. 1) (omega arith))

pub sssp_laws : (root : ℕ) → ProgramLaws (λ x. x < 256 ^ 8) (λ x. x < 256 ^ 8) (λ x. x < 256 ^ 8) (least_below (256 ^ 8)) (sssp_steps root)
sssp_laws root = label_laws (256 ^ 8) (sssp_fares root) (omega arith) (root_starts_below (256 ^ 8) root (λ weight. weight) (omega arith))

pub cc_laws : ProgramLaws (λ x. x < 256 ^ 4) (λ x. x < 256 ^ 4) (λ x. x < 256 ^ 4) (least_below (256 ^ 4)) cc_steps
cc_laws = label_laws (256 ^ 4) cc_fares (omega arith) own_starts_below
