-- The steps of k-core: a vertex starts fresh, is told how many arcs it has, and then by tallies how many
-- of these came from those who left.
use Rattle.std.specs.Prelude.{◌≡◌, ◌<◌, ◌-◌, ◌^◌, ℕ, Bool, true, false, cond, if◌then◌else◌, nat_eq, nat_le, Some, refl}
use Rattle.std.proofs.Common.{ap, ◌∙◌, arith}
use Rattle.reduce_laws.specs.NumberWords.{nat_eq_is_same}
use Rattle.reduce_laws.specs.Reducers.{wrapping_sum}
use Rattle.reduce_laws.specs.ProgramLaws.{Steps, ProgramLaws}
use Rattle.kcore_program.specs.declared.core_state.CoreState.{CoreState}
use Rattle.kcore_program.specs.declared.core_state.CoreState.TheVariants.{Fresh, Stays, Left}

-- who has k arcs or more stays, and who has fewer leaves
abbrev pub stays_or_leaves : (k degree : ℕ) → CoreState
stays_or_leaves k degree = if nat_le k degree then Stays degree else Left

-- the state after a tally: at first of all arcs, then of those that are lost
abbrev pub settle_tally : ℕ → CoreState → ℕ → CoreState
settle_tally k Fresh tally = stays_or_leaves k tally
settle_tally k (Stays degree) tally = stays_or_leaves k (degree - tally)
settle_tally k Left tally = Left

-- 1 for who has left, 0 for all others
abbrev pub left_mark : CoreState → ℕ
left_mark Left = 1
left_mark state = 0

-- 0 for who has left, 1 for all others
abbrev pub stay_mark : CoreState → ℕ
stay_mark Left = 0
stay_mark state = 1

-- the steps for a degree
abbrev pub core_steps : ℕ → Steps ℕ CoreState ℕ
core_steps k = record {
  start = λ v. Fresh;
  shown = left_mark;
  same = nat_eq;
  along = λ shown weight. 1;
  settle = settle_tally k;
  keep = λ shown. 0;
  answer = λ state. Some (stay_mark state);
}

-- a degree is a number of four bytes
abbrev pub IsCoreState : CoreState → Type 0
IsCoreState (Stays degree) = degree < 256 ^ 4
IsCoreState state = Unit {0}

stays_is_state : (k degree : ℕ) → degree < 256 ^ 4 → IsCoreState (stays_or_leaves k degree)
stays_is_state k degree h = by (nat_le k degree)
  where
    by : (b : Bool) → IsCoreState (cond b (Stays degree) Left)
    by true = h
    by false = tt

settle_is_state : (k : ℕ) (state : CoreState) (tally : ℕ) → IsCoreState state → tally < 256 ^ 4 → IsCoreState (settle_tally k state tally)
settle_is_state k Fresh tally hs ht = stays_is_state k tally ht
settle_is_state k (Stays degree) tally hs ht = stays_is_state k (degree - tally) (omega arith)
settle_is_state k Left tally hs ht = tt

mark_is_value : (state : CoreState) → left_mark state < 256 ^ 1
mark_is_value Fresh = omega arith
mark_is_value (Stays degree) = omega arith
mark_is_value Left = omega arith

-- who stays or has left is not moved by an empty tally
stays_then_nothing : (k degree : ℕ) → settle_tally k (stays_or_leaves k degree) 0 ≡ stays_or_leaves k degree
stays_then_nothing k degree = by (nat_le k degree) refl
  where
    by : (b : Bool) → nat_le k degree ≡ b → settle_tally k (cond b (Stays degree) Left) 0 ≡ cond b (Stays degree) Left
    by true h = ap (λ n. stays_or_leaves k n) (let same : degree - 0 ≡ degree = omega arith in same) ∙ ap (λ b. cond b (Stays degree) Left) h
    by false h = refl

settle_then_identity : (k : ℕ) (state : CoreState) (tally : ℕ) → settle_tally k (settle_tally k state tally) 0 ≡ settle_tally k state tally
settle_then_identity k Fresh tally = stays_then_nothing k tally
settle_then_identity k (Stays degree) tally = stays_then_nothing k (degree - tally)
settle_then_identity k Left tally = refl

-- the steps keep the laws of a program whose tallies add up
pub core_laws : (k : ℕ) → ProgramLaws (λ x. x < 256 ^ 4) (λ x. x < 256 ^ 1) IsCoreState wrapping_sum (core_steps k)
core_laws k = record {
  start_is_state = λ v h. tt;
  settle_is_state = λ s x hs hx. settle_is_state k s x hs hx;
  shown_is_value = λ s hs. mark_is_value s;
  along_is_value = λ y weight hy hw. omega arith;
  keep_is_value = λ y hy. omega arith;
  same_tells = λ x y _ _. nat_eq_is_same x y;
  settle_then_identity = λ s x hs hx. settle_then_identity k s x;
  settle-settle = λ h. absurd (cc);
  settle-identity = λ h. absurd (cc);
  settle-keep = λ h. absurd (cc);
  keep_is_identity = λ h y hy. refl;
}
