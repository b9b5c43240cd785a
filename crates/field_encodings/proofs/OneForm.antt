-- Under tags above 0, entries have one form.
use Rattle.std.proofs.Common.{◌≡◌, ℕ, zero, suc, Bool, List, ◌∷◌, ◌++◌, length, map, sym, ap, ◌∙◌, arith}
use Rattle.std.specs.List.{flat_map, items_where_true}
use Rattle.std.proofs.lemmas.Slice.Zip.{firsts-zip, seconds-zip}
use Rattle.list_laws.specs.Members.{members_from}
use Rattle.field_encodings.specs.Forms.{form, names}
use Rattle.field_encodings.specs.Laws.{EntriesHaveOneForm}
use Rattle.list_laws.proofs.Chosen.{length-items, same_marks}

same_form : {X : Type 0} (bytes_of : X → List ℕ) (more : ℕ) (ids : List ℕ) (marks others : List Bool) (values others_values : List X) → marks ≡ others → items_where_true marks values ≡ items_where_true others others_values
    → form bytes_of (suc more) ids marks values ≡ form bytes_of (suc more) ids others others_values
same_form bytes_of more ids marks others values others_values m v =
    ap (λ ms. suc more ∷ (names (suc more) ids ms ++ flat_map bytes_of (items_where_true marks values))) m
    ∙ ap (λ vs. suc more ∷ (names (suc more) ids others ++ flat_map bytes_of vs)) v

pub one_form : {X : Type 0} (IsValue : X → Type 0) (bytes_of : X → List ℕ) → EntriesHaveOneForm IsValue bytes_of
one_form {X} IsValue bytes_of ids bytes others zero marks more_marks values more_values above f g same = absurd (omega arith)
one_form {X} IsValue bytes_of ids bytes others (suc more) marks more_marks values more_values above f g same =
    let here : length (items_where_true marks values) ≡ length (members_from 0 marks) = length-items marks values 0 (f.value_for_each ∙ sym f.mark_for_each) in
    let there : length (items_where_true more_marks more_values) ≡ length (members_from 0 more_marks) = length-items more_marks more_values 0 (g.value_for_each ∙ sym g.mark_for_each) in
    let positions : members_from 0 marks ≡ members_from 0 more_marks
    = sym (firsts-zip (members_from 0 marks) (items_where_true marks values) here) ∙ ap (map (λ (p : ℕ × X). p.0)) same ∙ firsts-zip (members_from 0 more_marks) (items_where_true more_marks more_values) there in
    let found : items_where_true marks values ≡ items_where_true more_marks more_values
    = sym (seconds-zip (members_from 0 marks) (items_where_true marks values) here) ∙ ap (map (λ (p : ℕ × X). p.1)) same ∙ seconds-zip (members_from 0 more_marks) (items_where_true more_marks more_values) there in
    let alike : marks ≡ more_marks = same_marks 0 marks more_marks (f.mark_for_each ∙ sym g.mark_for_each) positions in
    f.whole ∙ same_form bytes_of more ids marks more_marks values more_values alike found ∙ sym g.whole
