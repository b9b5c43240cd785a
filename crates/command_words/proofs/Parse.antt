-- The parser's own account of words, as the items that they are.
use Rattle.std.proofs.Common.{◌≡◌, ◌∙◌, ◌&&◌, ◌||◌, Bool, true, false, List, [], ◌∷◌, ◌++◌, map, fold, Option, Some, None, refl, sym, ap, true≢false, String}
use Rattle.std.specs.Prelude.{if◌then◌else◌, IsSomeAnd, option_map, option_and_then, find, is_some, MatchResult, Result, Ok, Err}
use Rattle.std.specs.Global.{Global}
use Rattle.std.specs.Str.{bytes_eq, IsUtf8}
use Rattle.std.proofs.lemmas.Str.{IsUtf8-string_bytes}
use Rattle.clap.specs.Walk.{Held, Row, Rule, Walk, has_row, with_default, more_values, walked, settled, finished, nothing_held, walk_from, default_rows, reading_by}
use Rattle.clap.specs.Simple.{built, matches_of, is_simple}
use Rattle.clap.specs.Kinds.{or_else}
use Rattle.clap.specs.Faults.{turn_fault, walk_fault, settle_fault, default_fault, defaults_fault, check_fault, level_fault, fault_of}
use Rattle.clap.specs.declared.parser.matches.ValueSource.TheVariants.{DefaultValue}
use Rattle.clap.proofs.FaultLemmas.{leaf_fault}
use Rattle.command_words.specs.Items.{Text, Item, are_distinct, if_distinct, items_after, items_of, given, option_names, flag_names, texts_of}
use Rattle.command_words.specs.Found.{words_app, said_by_rows, explicit_text}
use Rattle.command_words.proofs.Items.{row_of_item, outcome, rows_say, at_row_missing}
use Rattle.command_words.proofs.Rules.{job_built, option_built, flag_built, top, rules_with}
use Rattle.command_words.proofs.Steps.{is_quiet, quiet_or, rows_from}
use Rattle.command_words.proofs.WordWalk.{AreUtf8, rows_are}

-- what is held at the end of the words
abbrev held_after : List Text → Walk → Held
held_after words w = (fold (walked top.rules []) w words).held

abbrev passes : List Text → Walk → Bool
passes words w = is_quiet (walk_fault top [] w words) && is_quiet (settle_fault top.rules false (held_after words w))

-- the walk, turn by turn, is the parser's
rows_from_is : (words : List Text) (w : Walk) → rows_from words w ≡ (if passes words w then Some (settled top.rules (held_after words w)).rows else None)
unfolding walk_fault
rows_from_is [] w = refl
rows_from_is (word ∷ words) w =
    let after = walked top.rules [] w word in
    let turn = turn_fault top [] w word in
    go (is_quiet turn) (rows_from_is words after) (quiet_or turn (walk_fault top [] after words))
  where
    go : (q : Bool) → rows_from words (walked top.rules [] w word) ≡ (if passes words (walked top.rules [] w word) then Some (settled top.rules (held_after words (walked top.rules [] w word))).rows else None)
        → is_quiet (or_else (turn_fault top [] w word) (walk_fault top [] (walked top.rules [] w word) words)) ≡ (q && is_quiet (walk_fault top [] (walked top.rules [] w word) words))
        → (if q then rows_from words (walked top.rules [] w word) else None)
        ≡ (if is_quiet (or_else (turn_fault top [] w word) (walk_fault top [] (walked top.rules [] w word) words)) && is_quiet (settle_fault top.rules false (held_after words (walked top.rules [] w word)))
        then Some (settled top.rules (held_after words (walked top.rules [] w word))).rows else None)
    go true rest both = rest ∙ ap (λ b. if b && is_quiet (settle_fault top.rules false (held_after words (walked top.rules [] w word))) then Some (settled top.rules (held_after words (walked top.rules [] w word))).rows else None) (sym both)
    go false rest both = ap (λ b. if b && is_quiet (settle_fault top.rules false (held_after words (walked top.rules [] w word))) then Some (settled top.rules (held_after words (walked top.rules [] w word))).rows else None) (sym both)

-- ---- defaults have no fault, and say nothing

defaulted : (a : Rule) → Type 0
defaulted a = (rows : List Row) → default_fault rows a ≡ []

job_default : (rows : List Row) → default_fault rows job_built ≡ []
job_default rows = go (has_row job_built.id rows)
  where
    go : (b : Bool) → (if b || true then [] else Rattle.clap.specs.Faults.given_default_fault job_built []) ≡ []
    go true = refl
    go false = refl

option_default : (name : Text) (rows : List Row) → default_fault rows (option_built name) ≡ []
option_default name rows = go (has_row name rows)
  where
    go : (b : Bool) → (if b || true then [] else Rattle.clap.specs.Faults.given_default_fault (option_built name) []) ≡ []
    go true = refl
    go false = refl

flag_default : (name : Text) (rows : List Row) → default_fault rows (flag_built name) ≡ []
flag_default name rows = go (has_row name rows)
  where
    go : (b : Bool) → (if b || false then [] else Rattle.clap.specs.Faults.given_default_fault (flag_built name) (flag_built name).defaults) ≡ []
    go true = refl
    go false = refl

flag_defaults : (flags : List Text) (rows : List Row) → defaults_fault rows (map flag_built flags) ≡ []
unfolding defaults_fault
flag_defaults [] rows = refl
flag_defaults (flag ∷ flags) rows =
    ap (λ k. or_else k (defaults_fault (with_default rows (flag_built flag)) (map flag_built flags))) (flag_default flag rows) ∙ flag_defaults flags (with_default rows (flag_built flag))

option_defaults : (options flags : List Text) (rows : List Row) → defaults_fault rows (map option_built options ++ map flag_built flags) ≡ []
unfolding defaults_fault
option_defaults [] flags rows = flag_defaults flags rows
option_defaults (option ∷ options) flags rows =
    ap (λ k. or_else k (defaults_fault (with_default rows (option_built option)) (map option_built options ++ map flag_built flags))) (option_default option rows)
    ∙ option_defaults options flags (with_default rows (option_built option))

no_default_fault : (rows : List Row) → defaults_fault rows (rules_with option_names flag_names) ≡ []
unfolding defaults_fault
no_default_fault rows =
    ap (λ k. or_else k (defaults_fault (with_default rows job_built) (map option_built option_names ++ map flag_built flag_names))) (job_default rows)
    ∙ option_defaults option_names flag_names (with_default rows job_built)

unsaid : (row : Row) → row.source ≡ Some DefaultValue → (rows : List Row) (label : Text) → said_by_rows (rows ++ row ∷ []) label ≡ said_by_rows rows label
unsaid row default [] label = go (bytes_eq row.id label)
  where
    go : (b : Bool) → explicit_text (if b then Some row else None) ≡ None
    go true = ap (λ source. if Rattle.command_words.specs.Found.is_from_words source then Rattle.std.specs.Prelude.slice_get row.values 0 else None) default
    go false = refl
unsaid row default (first ∷ rows) label = go (bytes_eq first.id label) (unsaid row default rows label)
  where
    go : (b : Bool) → said_by_rows (rows ++ row ∷ []) label ≡ said_by_rows rows label
        → explicit_text (if b then Some first else find (λ r. bytes_eq r.id label) (rows ++ row ∷ [])) ≡ explicit_text (if b then Some first else find (λ r. bytes_eq r.id label) rows)
    go true rest = refl
    go false rest = rest

flag_row_unsaid : (name : Text) (rows : List Row) (label : Text) → said_by_rows (with_default rows (flag_built name)) label ≡ said_by_rows rows label
flag_row_unsaid name rows label = go (has_row name rows) refl
  where
    go : (b : Bool) → has_row name rows ≡ b → said_by_rows (if b then rows else default_rows name (reading_by (flag_built name)) (flag_built name).defaults rows) label ≡ said_by_rows rows label
    go true e = refl
    go false e = ap (λ rs. said_by_rows rs label) (at_row_missing name (more_values DefaultValue (flag_built name).defaults) _ rows e) ∙ unsaid _ refl rows label

option_row_unsaid : (a : Rule) → a.defaults ≡ [] → (rows : List Row) (label : Text) → said_by_rows (with_default rows a) label ≡ said_by_rows rows label
option_row_unsaid a none rows label = ap (λ defaults. said_by_rows (if has_row a.id rows then rows else default_rows a.id (reading_by a) defaults rows) label) none ∙ go (has_row a.id rows)
  where
    go : (b : Bool) → said_by_rows (if b then rows else rows) label ≡ said_by_rows rows label
    go true = refl
    go false = refl

flags_unsaid : (flags : List Text) (rows : List Row) (label : Text) → said_by_rows (fold with_default rows (map flag_built flags)) label ≡ said_by_rows rows label
flags_unsaid [] rows label = refl
flags_unsaid (flag ∷ flags) rows label = flags_unsaid flags (with_default rows (flag_built flag)) label ∙ flag_row_unsaid flag rows label

options_unsaid : (options flags : List Text) (rows : List Row) (label : Text) → said_by_rows (fold with_default rows (map option_built options ++ map flag_built flags)) label ≡ said_by_rows rows label
options_unsaid [] flags rows label = flags_unsaid flags rows label
options_unsaid (option ∷ options) flags rows label = options_unsaid options flags (with_default rows (option_built option)) label ∙ option_row_unsaid (option_built option) refl rows label

defaults_unsaid : (rows : List Row) (label : Text) → said_by_rows (fold with_default rows (rules_with option_names flag_names)) label ≡ said_by_rows rows label
defaults_unsaid rows label = options_unsaid option_names flag_names (with_default rows job_built) label ∙ option_row_unsaid job_built refl rows label

-- ---- the parser's faults and rows

abbrev start : Walk
start = walk_from nothing_held

faults_are : (words : List Text) → is_quiet (fault_of words_app words) ≡ passes words start
faults_are words =
    let end = held_after words start in
    ap is_quiet (leaf_fault (built words_app) nothing_held words refl)
    ∙ quiet_or (walk_fault top [] start words) _
    ∙ ap (λ b. is_quiet (walk_fault top [] start words) && b)
    (quiet_or (settle_fault top.rules false end) _
    ∙ ap (λ k. is_quiet (settle_fault top.rules false end) && is_quiet (or_else k (check_fault top (finished top.rules end) false))) (no_default_fault (settled top.rules end).rows)
    ∙ and_true (is_quiet (settle_fault top.rules false end)))
  where
    and_true : (b : Bool) → (b && true) ≡ b
    and_true true = refl
    and_true false = refl

outcome_is : (items : Option (List Item)) → outcome [] items ≡ option_map (map row_of_item) (option_and_then if_distinct items)
outcome_is None = refl
outcome_is (Some items) = go (are_distinct items)
  where
    go : (b : Bool) → (if b then Some (map row_of_item items) else None) ≡ option_map (map row_of_item) (if b then Some items else None)
    go true = refl
    go false = refl

walk_is : (words : List Text) → AreUtf8 words
    → (if passes words start then Some (settled top.rules (held_after words start)).rows else None) ≡ option_map (map row_of_item) (items_of words)
walk_is words utf8 = sym (rows_from_is words start) ∙ rows_are words utf8 ∙ outcome_is (items_after words None)

-- the rows say what the items say
abbrev RowsSay : List Row → Option (List Item) → Type 0
RowsSay rows items = IsSomeAnd items (λ is. (label : Text) → said_by_rows rows label ≡ given is label)

some_rows : (rows : List Row) (items : Option (List Item)) → Some rows ≡ option_map (map row_of_item) items → IsSomeAnd items (λ is. rows ≡ map row_of_item is)
some_rows rows None e = absurd (true≢false (ap is_some e))
some_rows rows (Some is) e = ap (λ o. Rattle.std.specs.Prelude.unwrap_or o rows) e

-- where the parser finds no fault, its rows say what the items say
pub parse_finds : (words : List Text) → AreUtf8 words → fault_of words_app words ≡ [] → RowsSay (matches_of words_app words) (items_of words)
parse_finds words utf8 none =
    let pass : passes words start ≡ true = sym (faults_are words) ∙ ap is_quiet none in
    let rows = (settled top.rules (held_after words start)).rows in
    let found : Some rows ≡ option_map (map row_of_item) (items_of words) = ap (λ b. if b then Some rows else None) (sym pass) ∙ walk_is words utf8 in
    go (items_of words) (some_rows rows (items_of words) found)
  where
    go : (items : Option (List Item)) → IsSomeAnd items (λ is. (settled top.rules (held_after words start)).rows ≡ map row_of_item is) → RowsSay (matches_of words_app words) items
    go None h = h
    go (Some is) h = λ label. defaults_unsaid (settled top.rules (held_after words start)).rows label ∙ ap (λ rs. said_by_rows rs label) h ∙ rows_say is label

no_rows : (items : Option (List Item)) → None ≡ option_map (map row_of_item) items → items ≡ None
no_rows None e = refl
no_rows (Some is) e = absurd (true≢false (sym (ap is_some e)))

-- where it finds one, the words have no items
pub parse_refuses : (words : List Text) → AreUtf8 words → is_quiet (fault_of words_app words) ≡ false → items_of words ≡ None
parse_refuses words utf8 loud =
    let fail : passes words start ≡ false = sym (faults_are words) ∙ loud in
    let rows = (settled top.rules (held_after words start)).rows in
    no_rows (items_of words) (ap (λ b. if b then Some rows else None) (sym fail) ∙ walk_is words utf8)

-- each word is text
pub words_utf8 : (words : List (String Global)) → AreUtf8 (texts_of words)
words_utf8 [] = tt
words_utf8 (word ∷ words) = (IsUtf8-string_bytes word, words_utf8 words)

pub app_is_simple : is_simple words_app ≡ true
app_is_simple = refl
