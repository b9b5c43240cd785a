use Rattle.std.proofs.Common.{◌≡◌, ◌+◌, ◌∷◌, ◌∙◌, ℕ, List, [], sym, ap, arith, drop, length, length-drop}
use Rattle.std.proofs.lemmas.List.{drop-drop}
use Rattle.list_laws.proofs.Members.{members_since, members_since-next, members_since-none}
use Rattle.list_laws.proofs.Places.{slice_get_from_drop}
use Rattle.update_bits.proofs.update_bits.UpdateBits.nth_since.Goals as goal

pub overflow_add-from : goal.overflow_add-from
overflow_add-from c = omega (arith, c.in-Some.ensures.below, c.requires.short)

pub unreachable-requires : goal.unreachable-requires
unreachable-requires c =
    let all : List ℕ = members_since c.args.self.now c.args.start in
    let none : drop c.loop-passed._passed all ≡ [] = sym c.loop-passed.invariant.0 ∙ members_since-none c.args.self.now c.loop-passed.from c.in-None.ensures.next in
    omega (arith, ap length none, length-drop c.loop-passed._passed all, c.requires.place, c.loop-passed-test.true)

pub loop-passed-preserved : goal.loop-passed-preserved
loop-passed-preserved c =
    let all : List ℕ = members_since c.args.self.now c.args.start in
    let member : ℕ = c.in-Some.member in
    let next : drop c.loop-passed._passed all ≡ member ∷ members_since c.args.self.now (member + 1)
    = sym c.loop-passed.invariant.0 ∙ members_since-next c.args.self.now c.loop-passed.from member c.in-Some.ensures.next in
    (sym (ap (drop 1) next) ∙ drop-drop 1 c.loop-passed._passed all, omega (arith, c.in-Some.ensures.below))

pub unreachable-requires-in-None-next_from : goal.unreachable-requires-in-None-next_from
unreachable-requires-in-None-next_from c =
    let all : List ℕ = members_since c.args.self.now c.args.start in
    let none : drop c.loop-passed._passed all ≡ [] = sym c.loop-passed.invariant.0 ∙ members_since-none c.args.self.now c.loop-passed.from c.in-None-next_from.ensures.next in
    omega (arith, ap length none, length-drop c.loop-passed._passed all, c.requires.place, c.loop-passed.auto._passed-end)

pub returns : goal.returns
returns c =
    let all : List ℕ = members_since c.args.self.now c.args.start in
    let member : ℕ = c.in-Some-next_from.member in
    let passed : c.loop-passed._passed ≡ c.args.place = omega (arith, c.loop-passed.auto._passed-end, c.loop-passed-test.false) in
    let next : drop c.loop-passed._passed all ≡ member ∷ members_since c.args.self.now (member + 1)
    = sym c.loop-passed.invariant.0 ∙ members_since-next c.args.self.now c.loop-passed.from member c.in-Some-next_from.ensures.next in
    slice_get_from_drop all (members_since c.args.self.now (member + 1)) c.args.place member (ap (λ n. drop n all) (sym passed) ∙ next)
