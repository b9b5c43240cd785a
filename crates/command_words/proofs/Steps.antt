-- One word after another: the parser's walk against the items of the words.
use Rattle.std.proofs.Common.{◌≡◌, ◌∙◌, ◌&&◌, ◌||◌, ℕ, Bool, true, false, List, [], ◌∷◌, ◌++◌, map, Option, Some, None, refl, sym, ap, ◌⊎◌, inl, inr, true≢false}
use Rattle.std.specs.Prelude.{if◌then◌else◌}
use Rattle.std.specs.Option.{option_map_or}
use Rattle.std.specs.Str.{bytes_eq}
use Rattle.clap.specs.Lexer.{long_of, short_of}
use Rattle.clap.specs.Walk.{Held, Row, Rule, Walk, Waiting, idle, walked, settled, arg_by_id, arg_by_index, used, used_by_id, to_positional, pushed, is_pending, value}
use Rattle.clap.specs.Kinds.{Kinds, or_else}
use Rattle.clap.specs.Faults.{turn_fault, settle_fault, use_fault, repeat_fault, step_fault}
use Rattle.command_words.specs.Items.{Text, Item, JobWord, Setting, label_of, text_of, is_labelled, are_distinct, is_among, option_names, job_label}
use Rattle.command_words.proofs.Items.{row_of_item, outcome, has_row_is, row_joins, and_false, or_false, once, outcome_more, outcome_twice}
use Rattle.command_words.proofs.Rules.{job_built, option_built, top, found_by_id}

abbrev pub is_quiet : Kinds → Bool
is_quiet [] = true
is_quiet (k ∷ ks) = false

pub quiet_or : (a b : Kinds) → is_quiet (or_else a b) ≡ (is_quiet a && is_quiet b)
quiet_or [] b = refl
quiet_or (k ∷ ks) b = refl

pub quiet_is : (a : Kinds) → is_quiet a ≡ true → a ≡ []
quiet_is [] e = refl
quiet_is (k ∷ ks) e = absurd (true≢false (sym e))

-- the rows at the end of a walk, where its last use passes
abbrev pub ended : Held → Option (List Row)
ended h = if is_quiet (settle_fault top.rules false h) then Some (settled top.rules h).rows else None

-- the rows at the end of the walk over the words, where each turn passes
abbrev pub rows_from : List Text → Walk → Option (List Row)
rows_from [] w = ended w.held
rows_from (word ∷ words) w = if is_quiet (turn_fault top [] w word) then rows_from words (walked top.rules [] w word) else None

pub turn_on : (word : Text) (words : List Text) (w after : Walk) → turn_fault top [] w word ≡ [] → walked top.rules [] w word ≡ after
    → rows_from (word ∷ words) w ≡ rows_from words after
turn_on word words w after quiet is =
    ap (λ kinds. if is_quiet kinds then rows_from words (walked top.rules [] w word) else None) quiet ∙ ap (rows_from words) is

pub turn_off : (word : Text) (words : List Text) (w : Walk) → is_quiet (turn_fault top [] w word) ≡ false → rows_from (word ∷ words) w ≡ None
turn_off word words w loud = ap (λ b. if b then rows_from words (walked top.rules [] w word) else None) loud

-- what is held: the items whose rows are made, and the values of one that waits to be used
abbrev pub Pending : Type 0
Pending = Option (Text × List Text)

abbrev pub holding : List Item → Pending → Held
holding seen pending = record { rows = map row_of_item seen; pending = pending; skip = 0 }

abbrev pub at_step : List Item → Pending → Waiting → ℕ → Bool → Walk
at_step seen pending waiting position trailing =
    record { held = holding seen pending; waiting = waiting; position = position; is_trailing = trailing; stopped = None }

-- the position after a job word, and before
abbrev pub position_of : Bool → ℕ
position_of true = 2
position_of false = 1

-- an item that waits to be used: its rule takes its text
pub record Usable (item : Item) : Type 0 where
  pub rule : Rule
  pub found : arg_by_id top.rules (label_of item) ≡ Some rule
  pub fault : (rows : List Row) → use_fault false rule (text_of item ∷ []) rows ≡ repeat_fault false (label_of item) rows
  pub use_is : (seen : List Item) → is_labelled seen (label_of item) ≡ false → used rule (text_of item ∷ []) (map row_of_item seen) ≡ map row_of_item (seen ++ item ∷ [])

pub or_else_nothing : (a : Kinds) → or_else a [] ≡ a
or_else_nothing [] = refl
or_else_nothing (k ∷ ks) = refl

pub job_usable : (word : Text) → Usable (JobWord word)
job_usable word = record {
  rule = job_built;
  found = refl;
  fault = λ rows. or_else_nothing (repeat_fault false job_label rows);
  use_is = λ seen new. row_joins seen (JobWord word) new;
}

pub setting_usable : (label text : Text) → is_among label option_names ≡ true → Usable (Setting label text)
setting_usable label text known = record {
  rule = option_built label;
  found = found_by_id label known;
  fault = λ rows. or_else_nothing (repeat_fault false label rows);
  use_is = λ seen new. row_joins seen (Setting label text) new;
}

-- a use that no earlier use forbids, and one that an earlier use does
pub repeat_new : (seen : List Item) (label : Text) → is_labelled seen label ≡ false → repeat_fault false label (map row_of_item seen) ≡ []
repeat_new seen label new = rw (has_row_is seen label, new) refl

pub repeat_old : (seen : List Item) (label : Text) → is_labelled seen label ≡ true → is_quiet (repeat_fault false label (map row_of_item seen)) ≡ false
repeat_old seen label old = rw (has_row_is seen label, old) refl

-- what is held: these items, and perhaps one more that waits to be used; and all of them
pub data Holds (seen : List Item) : Pending → List Item → Type 0 where
  nothing_more : Holds seen None seen
  one_more : (item : Item) → Usable item → Holds seen (Some (label_of item, text_of item ∷ [])) (seen ++ item ∷ [])

-- What waits is used: all are held and distinct then; or it is one too many, whatever follows.
pub record Settles (seen : List Item) (pending : Pending) (all : List Item) : Type 0 where
  pub quiet : settle_fault top.rules false (holding seen pending) ≡ []
  pub held : settled top.rules (holding seen pending) ≡ holding all None
  pub distinct : are_distinct all ≡ true

pub record Clashes (seen : List Item) (pending : Pending) (all : List Item) : Type 0 where
  pub loud : is_quiet (settle_fault top.rules false (holding seen pending)) ≡ false
  pub none : (items : Option (List Item)) → outcome all items ≡ None

use_passes : (seen : List Item) (item : Item) (u : Usable item) → is_labelled seen (label_of item) ≡ false → use_fault false u.rule (text_of item ∷ []) (map row_of_item seen) ≡ []
use_passes seen item u new = u.fault (map row_of_item seen) ∙ repeat_new seen (label_of item) new

use_clashes : (seen : List Item) (item : Item) (u : Usable item) → is_labelled seen (label_of item) ≡ true → is_quiet (use_fault false u.rule (text_of item ∷ []) (map row_of_item seen)) ≡ false
use_clashes seen item u old = ap is_quiet (u.fault (map row_of_item seen)) ∙ repeat_old seen (label_of item) old

settles : (seen : List Item) (item : Item) → Usable item → are_distinct seen ≡ true → is_labelled seen (label_of item) ≡ false
    → Settles seen (Some (label_of item, text_of item ∷ [])) (seen ++ item ∷ [])
settles seen item u distinct new = record {
  quiet = ap (λ (rule : Option Rule). option_map_or (λ a. use_fault false a (text_of item ∷ []) (map row_of_item seen)) rule []) u.found ∙ use_passes seen item u new;
  held = ap (λ (rule : Option Rule). record { rows = used_by_id rule (text_of item ∷ []) (map row_of_item seen); pending = None; skip = 0 }) u.found
      ∙ ap (λ (rows : List Row). record { rows = rows; pending = None; skip = 0 }) (u.use_is seen new);
  distinct = once seen item distinct new;
}

clashes : (seen : List Item) (item : Item) → Usable item → is_labelled seen (label_of item) ≡ true
    → Clashes seen (Some (label_of item, text_of item ∷ [])) (seen ++ item ∷ [])
clashes seen item u old = record {
  loud = ap (λ (rule : Option Rule). is_quiet (option_map_or (λ a. use_fault false a (text_of item ∷ []) (map row_of_item seen)) rule [])) u.found ∙ use_clashes seen item u old;
  none = λ items. sym (outcome_more seen item items) ∙ outcome_twice seen item items old;
}

pub settle : (seen : List Item) (pending : Pending) (all : List Item) → Holds seen pending all → are_distinct seen ≡ true
    → Settles seen pending all ⊎ Clashes seen pending all
settle seen pending all nothing_more distinct = inl (record { quiet = refl; held = refl; distinct = distinct })
settle seen pending all (one_more item u) distinct = go (is_labelled seen (label_of item)) refl
  where
    go : (b : Bool) → is_labelled seen (label_of item) ≡ b
        → Settles seen (Some (label_of item, text_of item ∷ [])) (seen ++ item ∷ []) ⊎ Clashes seen (Some (label_of item, text_of item ∷ [])) (seen ++ item ∷ [])
    go false e = inl (settles seen item u distinct e)
    go true e = inr (clashes seen item u e)

-- ---- a word that goes to the positional

abbrev pub at_positional : List Item → Pending → ℕ → Bool → Text → Walk
at_positional seen pending position trailing word =
    to_positional top.rules (arg_by_index top.rules position) word (at_step seen pending idle position trailing) (holding seen pending)

pub placed : (seen : List Item) (pending : Pending) (all : List Item) (word : Text) (trailing : Bool) → settled top.rules (holding seen pending) ≡ holding all None
    → at_positional seen pending 1 trailing word ≡ at_step all (Some (job_label, word ∷ [])) idle 2 trailing
placed seen pending all word trailing held =
    ap (λ (b : Bool). record {
      held = pushed job_label word (if b then holding seen pending else settled top.rules (holding seen pending));
      waiting = idle;
      position = 2;
      is_trailing = trailing || false;
      stopped = None;
    }) (and_false (is_pending job_built pending))
    ∙ ap (λ (h : Held). record { held = pushed job_label word h; waiting = idle; position = 2; is_trailing = trailing || false; stopped = None }) held
    ∙ ap (λ (t : Bool). at_step all (Some (job_label, word ∷ [])) idle 2 t) (or_false trailing)

pub place_fault : (seen : List Item) (pending : Pending) → step_fault top 1 (holding seen pending) value ≡ settle_fault top.rules false (holding seen pending)
place_fault seen pending = ap (λ b. if b then [] else settle_fault top.rules false (holding seen pending)) (and_false (is_pending job_built pending))

pub plain_turn : (seen : List Item) (pending : Pending) (position : ℕ) (word : Text) → bytes_eq word (45 ∷ 45 ∷ []) ≡ false → long_of word ≡ None → short_of word ≡ None
    → turn_fault top [] (at_step seen pending idle position false) word ≡ step_fault top position (holding seen pending) value
plain_turn seen pending position word end long short = rw (end, long, short) refl

pub plain_walked : (seen : List Item) (pending : Pending) (position : ℕ) (word : Text) → bytes_eq word (45 ∷ 45 ∷ []) ≡ false → long_of word ≡ None → short_of word ≡ None
    → walked top.rules [] (at_step seen pending idle position false) word ≡ at_positional seen pending position false word
unfolding walked
plain_walked seen pending position word end long short = rw (end, long, short) refl

pub trailing_turn : (seen : List Item) (pending : Pending) (position : ℕ) (word : Text)
    → turn_fault top [] (at_step seen pending idle position true) word ≡ step_fault top position (holding seen pending) value
trailing_turn seen pending position word = refl

pub trailing_walked : (seen : List Item) (pending : Pending) (position : ℕ) (word : Text)
    → walked top.rules [] (at_step seen pending idle position true) word ≡ at_positional seen pending position true word
unfolding walked
trailing_walked seen pending position word = refl
