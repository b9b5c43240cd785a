-- What a parse of the command line found, and the command that it parses.
use Rattle.std.specs.Prelude.{◌≡◌, ◌||◌, is_none, Bool, true, false, List, ◌∷◌, ◌++◌, map, codes, Option, Some, None, find, slice_get, option_and_then, if◌then◌else◌}
use Rattle.std.specs.Borrow.{Bor}
use Rattle.std.specs.List.{list_all, list_any}
use Rattle.std.specs.Str.{bytes_eq}
use Rattle.clap.specs.Walk.{Row, Rule, rows_of}
use Rattle.clap.specs.Simple.{App, new_app, new_rule, on_top}
use Rattle.clap.specs.Matches.{found_of}
use Rattle.clap.specs.declared.builder.action.ArgAction.{ArgAction}
use Rattle.clap.specs.declared.builder.action.ArgAction.TheVariants.{Set, SetTrue}
use Rattle.clap.specs.declared.parser.matches.ArgMatches.{ArgMatches}
use Rattle.clap.specs.declared.parser.matches.ValueSource.{ValueSource}
use Rattle.clap.specs.declared.parser.matches.ValueSource.TheVariants.{CommandLine}
use Rattle.command_words.specs.Items.{Text, Item, option_names, flag_names, job_label, given}

-- whether the words made a row, and not a default
abbrev pub is_from_words : Option ValueSource → Bool
is_from_words (Some CommandLine) = true
is_from_words _ = false

-- the first value of a row that the words made
abbrev pub explicit_text : Option Row → Option Text
explicit_text = option_and_then (λ row. if is_from_words row.source then slice_get row.values 0 else None)

-- what rows say under a label
abbrev pub said_by_rows : List Row → Text → Option Text
said_by_rows rows label = explicit_text (find (λ row. bytes_eq row.id label) rows)

-- what a parse found under a label
abbrev pub said_by : ArgMatches → Text → Option Text
said_by matches label = said_by_rows (rows_of (found_of matches)) label

-- of these labels nothing is said but under those that are options
unfoldable pub says_only : List (Bor Text) → List (Bor Text) → (Text → Option Text) → Bool
says_only labels options say =
    list_all (λ label. list_any (λ option. bytes_eq option.now label.now) options || is_none (say label.now)) labels

-- the parse found what the items say
abbrev pub Finds : List Item → ArgMatches → Type 0
Finds items matches = (label : Text) → said_by matches label ≡ given items label

-- the rule of the job word, and of what has a name: an option or a flag
abbrev pub job_rule : Rule
job_rule = record (new_rule job_label) { action = Some Set }

abbrev pub named_rule : ArgAction → Text → Rule
named_rule action name = record (new_rule name) { long = Some name; action = Some action }

-- the command of all words, with these rules
abbrev pub app_with : List Rule → App
app_with rules = on_top (λ shape. record shape {
  rules = rules;
  no_binary_name = true;
  disable_help_flag = true;
  disable_version_flag = true;
}) (new_app (codes "gluon"))

-- the command: one job word, the options, the flags
abbrev pub words_app : App
words_app = app_with (job_rule ∷ map (named_rule Set) option_names ++ map (named_rule SetTrue) flag_names)
