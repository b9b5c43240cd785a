-- Lists of items, one more at a time.
use Rattle.std.proofs.Common.{◌≡◌, ◌∙◌, ◌&&◌, ◌||◌, Bool, true, false, not, List, [], ◌∷◌, ◌++◌, map, Option, Some, None, refl, sym, ap, true≢false, append_assoc, append-nil}
use Rattle.std.specs.Prelude.{option_map, if◌then◌else◌, find}
use Rattle.std.specs.Str.{bytes_eq}
use Rattle.std.proofs.lemmas.Slice.Eq.{bytes_eq-Decides}
use Rattle.std.proofs.lemmas.List.{map-append}
use Rattle.clap.specs.Walk.{Row, has_row, at_row, more_values, with_values}
use Rattle.clap.specs.declared.parser.matches.ValueSource.TheVariants.{CommandLine}
use Rattle.clap.specs.declared.builder.value_parser.Reading.TheVariants.{AsWritten}
use Rattle.command_words.specs.Items.{Text, Item, label_of, text_of, is_labelled, are_distinct, prepend, given}
use Rattle.command_words.specs.Found.{said_by_rows, explicit_text}

-- texts that are equal by the test
pub same_text : (a b : Text) → bytes_eq a b ≡ true → a ≡ b
same_text a b = (bytes_eq-Decides a b).0

pub text_is : (a : Text) → bytes_eq a a ≡ true
text_is a = (bytes_eq-Decides a a).1 refl

-- the test tells the same both ways
pub either_way : (a b : Text) → bytes_eq a b ≡ bytes_eq b a
either_way a b = go (bytes_eq a b) (bytes_eq b a) refl refl
  where
    go : (x y : Bool) → bytes_eq a b ≡ x → bytes_eq b a ≡ y → x ≡ y
    go true true e f = refl
    go false false e f = refl
    go true false e f = sym (ap (λ t. bytes_eq b t) (same_text a b e) ∙ text_is b) ∙ f
    go false true e f = sym e ∙ ap (λ t. bytes_eq a t) (same_text b a f) ∙ text_is a

-- the row that an item makes
abbrev pub row_of_item : Item → Row
row_of_item item = record { id = label_of item; values = text_of item ∷ []; count = None; source = Some CommandLine; reading = AsWritten }

-- the rows after items, of which none may stand twice, where there are items
abbrev pub outcome : List Item → Option (List Item) → Option (List Row)
outcome seen None = None
outcome seen (Some items) = if are_distinct (seen ++ items) then Some (map row_of_item (seen ++ items)) else None

pub has_row_is : (seen : List Item) (id : Text) → has_row id (map row_of_item seen) ≡ is_labelled seen id
has_row_is [] id = refl
has_row_is (item ∷ seen) id = ap (λ b. bytes_eq (label_of item) id || b) (has_row_is seen id)

pub at_row_missing : (id : Text) (change : Row → List Row) (missing rows : List Row) → has_row id rows ≡ false → at_row id change missing rows ≡ rows ++ missing
at_row_missing id change missing [] none = refl
at_row_missing id change missing (row ∷ rows) none = go (bytes_eq row.id id) none (at_row_missing id change missing rows)
  where
    go : (b : Bool) → (b || has_row id rows) ≡ false → (has_row id rows ≡ false → at_row id change missing rows ≡ rows ++ missing)
        → (if b then change row ++ rows else row ∷ at_row id change missing rows) ≡ row ∷ rows ++ missing
    go true h rest = absurd (true≢false h)
    go false h rest = ap (λ (rs : List Row). row ∷ rs) (rest h)

-- a new item's row goes to the end
pub row_joins : (seen : List Item) (item : Item) → is_labelled seen (label_of item) ≡ false
    → with_values (label_of item) AsWritten CommandLine (text_of item ∷ []) (at_row (label_of item) (λ _. []) [] (map row_of_item seen)) ≡ map row_of_item (seen ++ item ∷ [])
row_joins seen item new =
    let id = label_of item in
    let absent : has_row id (map row_of_item seen) ≡ false = has_row_is seen id ∙ new in
    let kept : at_row id (λ _. []) [] (map row_of_item seen) ≡ map row_of_item seen = at_row_missing id (λ _. []) [] (map row_of_item seen) absent ∙ append-nil (map row_of_item seen) in
    ap (with_values id AsWritten CommandLine (text_of item ∷ [])) kept
    ∙ at_row_missing id (more_values CommandLine (text_of item ∷ [])) (row_of_item item ∷ []) (map row_of_item seen) absent
    ∙ sym (map-append row_of_item seen (item ∷ []))

pub or_false : (b : Bool) → (b || false) ≡ b
or_false true = refl
or_false false = refl

pub and_false : (b : Bool) → (b && false) ≡ false
and_false true = refl
and_false false = refl

pub labelled_more : (seen : List Item) (item : Item) (label : Text) → is_labelled (seen ++ item ∷ []) label ≡ (is_labelled seen label || bytes_eq (label_of item) label)
labelled_more [] item label = or_false (bytes_eq (label_of item) label)
labelled_more (first ∷ seen) item label = go (bytes_eq (label_of first) label) (labelled_more seen item label)
  where
    go : (b : Bool) → is_labelled (seen ++ item ∷ []) label ≡ (is_labelled seen label || bytes_eq (label_of item) label) → (b || is_labelled (seen ++ item ∷ []) label) ≡ ((b || is_labelled seen label) || bytes_eq (label_of item) label)
    go true rest = refl
    go false rest = rest

labelled_within : (seen : List Item) (item : Item) (rest : List Item) (label : Text) → bytes_eq (label_of item) label ≡ true → is_labelled (seen ++ item ∷ rest) label ≡ true
labelled_within [] item rest label e = rw e refl
labelled_within (first ∷ seen) item rest label e = go (bytes_eq (label_of first) label) (labelled_within seen item rest label e)
  where
    go : (b : Bool) → is_labelled (seen ++ item ∷ rest) label ≡ true → (b || is_labelled (seen ++ item ∷ rest) label) ≡ true
    go true h = refl
    go false h = h

-- an item that stands already is one too many
twice : (seen : List Item) (item : Item) (rest : List Item) → is_labelled seen (label_of item) ≡ true → are_distinct (seen ++ item ∷ rest) ≡ false
twice [] item rest h = absurd (true≢false (sym h))
twice (first ∷ seen) item rest h = go (bytes_eq (label_of first) (label_of item)) refl h (twice seen item rest)
  where
    go : (b : Bool) → bytes_eq (label_of first) (label_of item) ≡ b → (b || is_labelled seen (label_of item)) ≡ true
        → (is_labelled seen (label_of item) ≡ true → are_distinct (seen ++ item ∷ rest) ≡ false)
        → (not (is_labelled (seen ++ item ∷ rest) (label_of first)) && are_distinct (seen ++ item ∷ rest)) ≡ false
    go true e g later = ap (λ b. not b && are_distinct (seen ++ item ∷ rest)) (labelled_within seen item rest (label_of first) (either_way (label_of item) (label_of first) ∙ e))
    go false e g later = ap (λ b. not (is_labelled (seen ++ item ∷ rest) (label_of first)) && b) (later g) ∙ and_false _

both_true : (a b : Bool) → (a && b) ≡ true → (a ≡ true) × (b ≡ true)
both_true true b e = (refl, e)
both_true false b e = absurd (true≢false (sym e))

neither : (a b : Bool) → (a || b) ≡ false → (a ≡ false) × (b ≡ false)
neither true b e = absurd (true≢false e)
neither false b e = (refl, e)

-- a new item leaves them distinct
pub once : (seen : List Item) (item : Item) → are_distinct seen ≡ true → is_labelled seen (label_of item) ≡ false → are_distinct (seen ++ item ∷ []) ≡ true
once [] item h new = refl
once (first ∷ seen) item h new =
    let apart = neither (bytes_eq (label_of first) (label_of item)) (is_labelled seen (label_of item)) new in
    let kept = both_true (not (is_labelled seen (label_of first))) (are_distinct seen) h in
    let other : bytes_eq (label_of item) (label_of first) ≡ false = either_way (label_of item) (label_of first) ∙ apart.0 in
    rw (labelled_more seen item (label_of first), other, or_false (is_labelled seen (label_of first)), once seen item kept.1 apart.1, kept.0) refl

pub outcome_more : (seen : List Item) (item : Item) (items : Option (List Item)) → outcome seen (prepend item items) ≡ outcome (seen ++ item ∷ []) items
outcome_more seen item None = refl
outcome_more seen item (Some items) = ap (λ all. if are_distinct all then Some (map row_of_item all) else None) (sym (append_assoc seen (item ∷ []) items))

pub outcome_twice : (seen : List Item) (item : Item) (items : Option (List Item)) → is_labelled seen (label_of item) ≡ true → outcome seen (prepend item items) ≡ None
outcome_twice seen item None h = refl
outcome_twice seen item (Some items) h = ap (λ b. if b then Some (map row_of_item (seen ++ item ∷ items)) else None) (twice seen item items h)

-- rows say what items say
pub rows_say : (items : List Item) (label : Text) → said_by_rows (map row_of_item items) label ≡ given items label
rows_say [] label = refl
rows_say (item ∷ items) label = go (bytes_eq (label_of item) label) (rows_say items label)
  where
    go : (b : Bool) → said_by_rows (map row_of_item items) label ≡ given items label → explicit_text (if b then Some (row_of_item item) else find (λ row. bytes_eq row.id label) (map row_of_item items))
        ≡ option_map text_of (if b then Some item else find (λ i. bytes_eq (label_of i) label) items)
    go true rest = refl
    go false rest = rest
