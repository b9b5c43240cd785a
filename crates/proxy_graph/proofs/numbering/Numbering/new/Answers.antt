use Rattle.std.proofs.Common.{◌≡◌, ◌∙◌, ◌+◌, ◌-◌, ℕ, Bool, true, false, not, nat_le, nat_lt, ◌&&◌, length, refl, sym, ap, arith, inl, inr}
use Rattle.std.proofs.lemmas.Bool.{cases_lt, lt-ltb, le-ltb, lt-leb}
use Rattle.list_laws.specs.Members.{has_member}
use Rattle.proxy_graph.specs.Numbering.{is_hosted}
use Rattle.proxy_graph.proofs.numbering.Numbering.new.Goals as goal

-- who is hosted lies between the ends of the row
between_is : (first count v : ℕ) → (nat_le first v && nat_lt v (first + count)) ≡ is_hosted first count v
between_is first count v = elim (cases_lt v first) [
  | inl low ↦ ap (λ b. b && nat_lt v (first + count)) (lt-leb first v low) ∙ ap (λ b. b && nat_lt (v - first) count) (sym (lt-leb first v low))
  | inr from ↦ ap (λ b. nat_le first v && b) (elim (cases_lt v (first + count)) [
    | inl within ↦ lt-ltb v (first + count) within ∙ sym (lt-ltb (v - first) count (omega (arith, from, within)))
    | inr behind ↦ le-ltb v (first + count) behind ∙ sym (le-ltb (v - first) count (omega (arith, from, behind)))
  ])
]

-- what is asked of two truth values does not hang on their order
turned : (a b : Bool) → (a && not b) ≡ (not b && a)
turned true true = refl
turned true false = refl
turned false true = refl
turned false false = refl

pub returns : goal.returns
returns c =
    let set = c.in_ok-new.ensures in
    record {
      begins = refl;
      hosted = refl;
      row = c.requires.within;
      few = c.requires.few;
      long = ap length set ∙ c.clear_between.ensures.length;
      mirrored = λ v within.
          ap (λ bits. has_member bits v) set
          ∙ c.clear_between.ensures.members v
          ∙ ap (λ b. has_member c.args.marks v && not b) (between_is c.args.first c.args.count v)
          ∙ turned (has_member c.args.marks v) (is_hosted c.args.first c.args.count v);
    }
