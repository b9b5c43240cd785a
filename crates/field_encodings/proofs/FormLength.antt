-- The table of lengths tells how long each form is.
use Rattle.std.proofs.Common.{◌≡◌, ◌≤◌, ℕ, zero, suc, ◌*◌, Bool, List, length, sym, ap, ◌∙◌, arith, length-append}
use Rattle.std.specs.List.{All, flat_map, items_where_true}
use Rattle.std.proofs.lemmas.List.Elements.{All-from_recursion, recursion_from_All, All-weaker}
use Rattle.reduce_laws.specs.WordLaws.{WordLaws}
use Rattle.list_laws.specs.LittleEndian.{le_bytes}
use Rattle.list_laws.specs.Members.{members_from}
use Rattle.field_encodings.specs.Lengths.{vector_length, greatest_of, width_for, form_length}
use Rattle.field_encodings.specs.Forms.{bit_vector, form, names}
use Rattle.field_encodings.specs.Laws.{FormsHaveTheirLength}
use Rattle.list_laws.proofs.LittleEndian.{length-in_pieces}
use Rattle.list_laws.proofs.Bits.{length-packed}
use Rattle.list_laws.proofs.Chosen.{length-items, All-items}
use Rattle.list_laws.proofs.WholeNumbers.{length-le_text}

module _ {X : Type 0} (size : ℕ) (IsValue : X → Type 0) (bytes_of : X → List ℕ) (value_of : List ℕ → X) (eq : X → X → Bool) (laws : WordLaws size IsValue bytes_of value_of eq) where
  values_length : (values : List X) → All IsValue values → length (flat_map bytes_of values) ≡ length values * size
  values_length values h = length-in_pieces size bytes_of values (All-weaker IsValue (λ x. length (bytes_of x) ≡ size) laws.length_of_bytes values h)

  chosen_length : (marks : List Bool) (values : List X) → length values ≡ length marks → All IsValue values → length (flat_map bytes_of (items_where_true marks values)) ≡ length (members_from 0 marks) * size
  chosen_length marks values e h =
      values_length (items_where_true marks values) (All-from_recursion IsValue (items_where_true marks values) (All-items IsValue marks values (recursion_from_All IsValue values h)))
      ∙ ap (λ n. n * size) (length-items marks values 0 e)

  form_has_length : (ids : List ℕ) (tag : ℕ) (marks : List Bool) (values : List X) → tag ≤ 3 → length marks ≡ length ids → length values ≡ length ids → All IsValue values
      → length (form bytes_of tag ids marks values) ≡ form_length (length ids) (length (members_from 0 marks)) (greatest_of (members_from 0 marks)) size tag
  unfolding names
  form_has_length ids zero marks values t m v h =
      let all : length (flat_map bytes_of values) ≡ length ids * size = values_length values h ∙ ap (λ n. n * size) v in
      omega arith
  form_has_length ids (suc zero) marks values t m v h =
      let width : length (bit_vector marks) ≡ vector_length (length ids) = length-packed 8 (vector_length (length marks)) marks ∙ ap vector_length m in
      omega (arith, length-append (bit_vector marks) (flat_map bytes_of (items_where_true marks values)), width, chosen_length marks values (v ∙ sym m) h)
  form_has_length ids (suc (suc zero)) marks values t m v h =
      let positions : List ℕ = members_from 0 marks in
      let width : ℕ = width_for (greatest_of positions) in
      omega (arith, length-append (flat_map (le_bytes width) positions) (flat_map bytes_of (items_where_true marks values)), length-le_text width positions, chosen_length marks values (v ∙ sym m) h)
  form_has_length ids (suc (suc (suc zero))) marks values t m v h =
      omega (arith, length-append (flat_map (le_bytes 4) (items_where_true marks ids)) (flat_map bytes_of (items_where_true marks values)), length-le_text 4 (items_where_true marks ids), length-items marks ids 0 (sym m), chosen_length marks values (v ∙ sym m) h)
  form_has_length ids (suc (suc (suc (suc more)))) marks values t m v h = absurd (omega arith)

  pub forms_have_their_length : FormsHaveTheirLength size IsValue bytes_of
  forms_have_their_length ids bytes tag marks values f =
      ap length f.whole ∙ form_has_length ids tag marks values f.is_tag f.mark_for_each f.value_for_each f.are_values
