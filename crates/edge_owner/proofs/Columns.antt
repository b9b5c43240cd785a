-- The columns of a grid are the least that make one.
use Rattle.std.proofs.Common.{◌≡◌, ℕ, zero, suc, ◌+◌, ◌*◌, ◌/◌, ◌%◌, ◌<◌, ◌≤◌, Bool, true, false, cond, Some, ◌&&◌, inl, inr, refl, ap, sym, ◌∙◌, arith}
use Rattle.std.specs.Prelude.{find, unwrap_or, nat_le, ◌==◌}
use Rattle.std.specs.List.{range_with_len}
use Rattle.std.specs.Cmp.Derive.{both_true}
use Rattle.std.proofs.Math.Nat.{mod_self, mul-mod_left, mul-le-mul_left}
use Rattle.std.proofs.lemmas.Bool.{and_parts, both_ways, cases_lt, eqb-true, eq-eqb, leb-true, le-leb}
use Rattle.std.proofs.lemmas.Nat.{div-add-mod'}
use Rattle.edge_owner.specs.Grid.{IsGrid, columns_of}

module _ (p : ℕ → Bool) where
  -- the first of n numbers from a on that passes
  pub record IsFirst (a n found : ℕ) : Type 0 where
    pub low : a ≤ found
    pub high : found < a + n
    pub passes : p found ≡ true
    pub first : (c : ℕ) → a ≤ c → c < found → p c ≡ false

  -- where a number passes, the first that does is found
  pub found_first : (a n d k : ℕ) → a ≤ k → k < a + n → p k ≡ true → IsFirst a n (unwrap_or (find p (range_with_len a n)) d)
  found_first a zero d k low high passes = absurd (omega arith)
  found_first a (suc n) d k low high passes =
      elim (p a) as (λ b. p a ≡ b → IsFirst a (suc n) (unwrap_or (cond b (Some a) (find p (range_with_len (a + 1) n))) d)) [
        | true ↦ λ yes. record { low = omega arith; high = omega arith; passes = yes; first = λ c from below. absurd (omega arith) }
        | false ↦ λ no.
            let later : a + 1 ≤ k = elim (cases_lt a k) [
              | inl before ↦ omega arith
              | inr here ↦ (let same : a ≡ k = omega arith in absurd (both_ways (p k) (ap p (sym same) ∙ no) passes))
            ] in
            let rest = found_first (a + 1) n d k later (omega arith) passes in
            record {
              low = omega (arith, rest.low);
              high = omega (arith, rest.high);
              passes = rest.passes;
              first = λ c from below. elim (cases_lt a c) [
                | inl after ↦ rest.first c (omega arith) below
                | inr here ↦ (let same : c ≡ a = omega arith in ap p same ∙ no)
              ];
            }
      ] refl

-- whether a grid of so many hosts may have so many columns
fits : ℕ → ℕ → Bool
fits hosts columns = (hosts % columns == 0) && nat_le hosts (columns * columns)

-- a number is no more than its square
le-square : (n : ℕ) → 0 < n → n ≤ n * n
le-square n some = let more : n * 1 ≤ n * n = mul-le-mul_left n (omega arith) in omega (arith, more)

columns_first : (hosts : ℕ) → 0 < hosts → IsFirst (fits hosts) 1 hosts (columns_of hosts)
unfolding fits columns_of
columns_first hosts some =
    found_first (fits hosts) 1 hosts hosts hosts (omega arith) (omega arith)
    (both_true (eq-eqb (hosts % hosts) 0 (mod_self hosts)) (le-leb hosts (hosts * hosts) (le-square hosts some)))

-- a grid has a column
pub columns_positive : (hosts : ℕ) → 0 < hosts → 0 < columns_of hosts
columns_positive hosts some = omega (arith, (columns_first hosts some).low)

-- what makes a grid fits
fits-of : (hosts rows columns : ℕ) → rows * columns ≡ hosts → hosts ≤ columns * columns → fits hosts columns ≡ true
unfolding fits
fits-of hosts rows columns full wide =
    let divides : hosts % columns ≡ 0 = ap (λ n. n % columns) (sym full) ∙ mul-mod_left rows columns in
    both_true (eq-eqb (hosts % columns) 0 divides) (le-leb hosts (columns * columns) wide)

-- hosts stand in a grid of these columns
pub IsGrid-columns_of : (hosts : ℕ) → 0 < hosts → IsGrid hosts (hosts / columns_of hosts) (columns_of hosts)
unfolding fits
IsGrid-columns_of hosts some =
    let columns = columns_of hosts in
    let least = columns_first hosts some in
    let parts = and_parts (hosts % columns == 0) (nat_le hosts (columns * columns)) least.passes in
    record {
      full = omega (arith, div-add-mod' hosts columns, eqb-true (hosts % columns) 0 parts.0);
      wide = leb-true hosts (columns * columns) parts.1;
      narrowest = λ r c full wide. elim (cases_lt c columns) [
        | inl fewer ↦ absurd (both_ways (fits hosts c) (least.first c (positive r c full wide) fewer) (fits-of hosts r c full wide))
        | inr more ↦ more
      ];
    }
  where
    positive : (r c : ℕ) → r * c ≡ hosts → hosts ≤ c * c → 1 ≤ c
    positive r zero full wide = absurd (omega arith)
    positive r (suc c) full wide = omega arith
