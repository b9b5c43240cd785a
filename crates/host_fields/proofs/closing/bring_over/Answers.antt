use Rattle.std.proofs.Common.{◌≡◌, ◌<◌, ◌≤◌, ◌+◌, ℕ, [], length, take, get_or, set, sym, ap, subst, ◌∙◌, inl, inr, cond, arith}
use Rattle.std.specs.Prelude.{nat_lt}
use Rattle.std.proofs.lemmas.Bool.{cases_lt, lt-ltb, le-ltb}
use Rattle.std.proofs.lemmas.List.{ext_get_or, get_or-set_same, get_or-set_other, get_or_default}
use Rattle.list_laws.specs.Members.{IsLeastMemberSince, HasNoMemberSince}
use Rattle.host_fields.proofs.Woken.{members_below, counted_next, counted_all}
use Rattle.host_fields.proofs.closing.bring_over.Goals as goal
use Rattle.host_fields.proofs.closing.bring_over.Goals.{then-local-masters, else-local-masters}

pub loop-local-preserved : goal.loop-local-preserved
loop-local-preserved g c =
    let awake = c.args.awake_next.now in
    let shown = c.loop-local.shown in
    let local = c.in-Some.local in
    let value = c.index-next-local.result in
    let least : IsLeastMemberSince c.args.awake_next.now c.loop-local.from c.in-Some.local = c.in-Some.ensures.next in
    let since : c.loop-local.from ≤ c.in-Some.local = least.since in
    let below : c.in-Some.local < length c.args.awake_next.now = c.in-Some.ensures.below in
    let has_next : c.in-Some.local < length c.args.next.now = omega arith in
    let has_shown : c.in-Some.local < length c.loop-local.shown = omega arith in
    let few_before = c.loop-local.invariant.few in
    let counted : c.if-local-masters.woken ≡ members_below (take c.args.masters c.args.awake_next.now) c.loop-local.from + cond (nat_lt c.in-Some.local c.args.masters) 1 0
    = elim c.if-local-masters.branch [
      | then-local-masters w ↦ w.woken-is ∙ ap (λ n. n + 1) c.loop-local.invariant.woken ∙ ap (λ b. members_below (take c.args.masters c.args.awake_next.now) c.loop-local.from + cond b 1 0) (sym (lt-ltb c.in-Some.local c.args.masters w.if-local-masters.true))
      | else-local-masters w ↦ w.woken-is ∙ c.loop-local.invariant.woken ∙ (omega arith) ∙ ap (λ b. members_below (take c.args.masters c.args.awake_next.now) c.loop-local.from + cond b 1 0) (sym (le-ltb c.in-Some.local c.args.masters w.if-local-masters.false))
    ] in
    let few : c.if-local-masters.woken ≤ c.in-Some.local + 1 = elim c.if-local-masters.branch [ then-local-masters w ↦ omega arith | else-local-masters w ↦ omega arith ] in
    record {
      inside = omega arith;
      brought = λ k y h. elim (cases_lt k local) [
        | inl less ↦ get_or-set_other shown local k value y (λ same. omega arith) ∙ (elim (cases_lt k c.loop-local.from) [
          | inl old ↦ c.loop-local.invariant.brought k y old
          | inr new ↦ c.loop-local.invariant.rest k y new ∙ sym (c.requires.quiet k y (omega arith) (least.least k new less))
        ])
        | inr more ↦
            let same : c.in-Some.local ≡ k = omega arith in
            subst (λ (i : ℕ). get_or (set shown local value) i y ≡ get_or c.args.next.now i y) same
            (get_or-set_same shown local value y has_shown ∙ c.index-next-local.is ∙ get_or_default c.args.next.now local value y has_next)
      ];
      rest = λ k y h. get_or-set_other shown local k value y (λ same. omega arith) ∙ c.loop-local.invariant.rest k y (omega arith);
      woken = counted ∙ sym (counted_next awake c.args.masters c.loop-local.from local least);
      few = few;
    }

pub returns-clause-shown : goal.returns-clause-shown
returns-clause-shown g c =
    let none : HasNoMemberSince c.args.awake_next.now c.loop-local.from = c.in_default.ensures.next in
    ext_get_or (g.W.Word.value_of []) c.loop-local.shown c.args.next.now (omega arith) (λ k h. elim (cases_lt k c.loop-local.from) [
      | inl old ↦ c.loop-local.invariant.brought k (g.W.Word.value_of []) old
      | inr new ↦ c.loop-local.invariant.rest k (g.W.Word.value_of []) new ∙ sym (c.requires.quiet k (g.W.Word.value_of []) (omega arith) (none k new))
    ])

pub returns-clause-woken : goal.returns-clause-woken
returns-clause-woken g c =
    let none : HasNoMemberSince c.args.awake_next.now c.loop-local.from = c.in_default.ensures.next in
    c.loop-local.invariant.woken ∙ counted_all c.args.awake_next.now c.args.masters c.loop-local.from none
