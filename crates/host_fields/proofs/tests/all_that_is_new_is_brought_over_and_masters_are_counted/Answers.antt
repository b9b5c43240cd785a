use Rattle.std.proofs.Common.{◌≡◌, ◌<◌, true, length, sym, ap, ◌∙◌, arith}
use Rattle.std.proofs.lemmas.Bool.{true≢false}
use Rattle.list_laws.specs.Members.{has_member, all_members}
use Rattle.list_laws.proofs.Members.{has_member-all_members}
use Rattle.host_fields.proofs.tests.all_that_is_new_is_brought_over_and_masters_are_counted.Goals as goal

-- each number is a member
pub bring_over-requires-clause-quiet : goal.bring_over-requires-clause-quiet
bring_over-requires-clause-quiet c c' = λ l y h none.
    let within : l < length c'.in_ok-awake.awake = omega (arith, ap length c'.in_ok-awake.ensures) in
    let all : has_member (all_members (length c'.in_ok-awake.awake)) l ≡ true = has_member-all_members (length c'.in_ok-awake.awake) l within in
    absurd (true≢false (sym all ∙ sym (ap (λ bits. has_member bits l) c'.set_all.ensures) ∙ none))
