-- What a parse found under a label, by its rows.
use Rattle.std.proofs.Common.{◌≡◌, ◌∙◌, Bool, false, List, [], ◌∷◌, Option, Some, None, refl, sym, ap}
use Rattle.std.specs.Prelude.{slice_get, option_map, option_and_then, if◌then◌else◌}
use Rattle.std.specs.Borrow.{Bor}
use Rattle.std.specs.Str.{bytes_eq}
use Rattle.std.specs.List.{find}
use Rattle.clap.specs.Facts.{Entry}
use Rattle.clap.specs.Matches.{matched_of, first_value}
use Rattle.clap.specs.Walk.{row_of, rows_of, texts}
use Rattle.clap.specs.declared.parser.matches.Found.{Found}
use Rattle.clap.specs.declared.parser.matches.ValueSource.{ValueSource}
use Rattle.clap.specs.declared.parser.matches.ValueSource.TheVariants.{CommandLine}
use Rattle.clap.proofs.WalkLemmas.{find_row}
use Rattle.command_words.specs.Items.{Text}
use Rattle.command_words.specs.Found.{is_from_words, explicit_text, said_by_rows}

-- where a label's values came from
abbrev pub source_of : Found → Text → Option ValueSource
source_of found label = option_and_then (λ a. a.source) (matched_of found label)

abbrev has_label : Text → Entry → Bool
has_label label entry = bytes_eq entry.0.now label

first_text : (values : List (Bor Text)) → slice_get (texts values) 0 ≡ option_map (λ s. s.now) (slice_get values 0)
first_text [] = refl
first_text (value ∷ values) = refl

-- what is said is the label's first value, where the words made it
pub said_is : (found : Found) (label : Text) →
    said_by_rows (rows_of found) label ≡ (if is_from_words (source_of found label) then first_value found label else None)
said_is found label = ap explicit_text (find_row found.entries.items label) ∙ go (find (has_label label) found.entries.items)
  where
    go : (entry : Option Entry) → explicit_text (option_map row_of entry)
        ≡ (if is_from_words (option_and_then (λ a. a.source) (option_map (λ e. e.1) entry))
        then option_and_then (λ a. option_map (λ s. s.now) (slice_get a.vals.items 0)) (option_map (λ e. e.1) entry) else None)
    go None = refl
    go (Some entry) = ap (λ text. if is_from_words entry.1.source then text else None) (first_text entry.1.vals.items)

pub said_first : (found : Found) (label : Text) → source_of found label ≡ Some CommandLine → first_value found label ≡ said_by_rows (rows_of found) label
said_first found label source = sym (said_is found label ∙ ap (λ from. if is_from_words from then first_value found label else None) source)

pub said_none : (found : Found) (label : Text) → is_from_words (source_of found label) ≡ false → None ≡ said_by_rows (rows_of found) label
said_none found label source = sym (said_is found label ∙ ap (λ from. if from then first_value found label else None) source)
