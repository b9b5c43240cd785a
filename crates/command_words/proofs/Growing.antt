-- The command that grows argument by argument.
use Rattle.std.proofs.Common.{◌≡◌, ◌∙◌, ◌<◌, ◌+◌, ℕ, List, [], ◌∷◌, map, fold, take, length, get_or, sym, ap}
use Rattle.std.specs.Borrow.{Bor}
use Rattle.std.proofs.lemmas.List.{take_more, map-append}
use Rattle.std.proofs.lemmas.List.Sums.{fold-append}
use Rattle.clap.specs.Simple.{App, with_rule}
use Rattle.clap.specs.Walk.{Rule}
use Rattle.command_words.specs.Items.{Text}

-- one name more
pub one_name_more : (base : App) (rule : Bor Text → Rule) (names : List (Bor Text)) (i : ℕ) (d : Bor Text) (made : Rule) → i < length names → made ≡ rule (get_or names i d)
    → with_rule (fold with_rule base (map rule (take i names))) made ≡ fold with_rule base (map rule (take (i + 1) names))
one_name_more base rule names i d made inside is =
    ap (with_rule (fold with_rule base (map rule (take i names)))) is
    ∙ sym (ap (λ ns. fold with_rule base (map rule ns)) (take_more names i d inside)
    ∙ ap (fold with_rule base) (map-append rule (take i names) (get_or names i d ∷ []))
    ∙ fold-append with_rule base (map rule (take i names)) (rule (get_or names i d) ∷ []))
