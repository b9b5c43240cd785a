-- The parser's walk over all words ends with the rows of the words' items, where there are items.
use Rattle.std.proofs.Common.{◌≡◌, ◌∙◌, ◌<◌, ◌&&◌, ◌||◌, ℕ, Bool, true, false, List, [], ◌∷◌, ◌++◌, map, length, Option, Some, None, refl, sym, ap, arith, inl, inr, append-nil}
use Rattle.std.specs.Prelude.{if◌then◌else◌, is_none, slice_get, nat_lt}
use Rattle.std.specs.Option.{option_map_or}
use Rattle.std.specs.Str.{bytes_eq, chars, IsUtf8}
use Rattle.clap.specs.Lexer.{long_of, short_of}
use Rattle.clap.specs.Walk.{Held, Row, Rule, Walk, idle, option, walked, settled, reacted, arg_by_id, arg_by_long, used, value, after_step, long_met, long_word, option_word, after_flag}
use Rattle.clap.specs.Kinds.{Kinds, or_else}
use Rattle.clap.specs.Faults.{turn_fault, settle_fault, use_fault, flags_fault, bundle_fault, repeat_fault, step_fault, long_fault, react_fault}
use Rattle.command_words.specs.Items.{Text, Item, JobWord, Setting, Flag, name, is_plain, said, valued, items_after, label_of, is_labelled, are_distinct, prepend, is_among, option_names, flag_names, job_label}
use Rattle.command_words.proofs.Items.{row_of_item, outcome, row_joins, or_false, labelled_more, once, outcome_more, outcome_twice, text_is, either_way}
use Rattle.command_words.proofs.Rules.{option_built, flag_built, top, found_by_long, found_by_id, no_job_option, no_job_flag}
use Rattle.command_words.proofs.Spellings.{View, is_plain_word, is_end, is_name, is_stray, view}
use Rattle.command_words.proofs.Steps.{is_quiet, quiet_or, ended, rows_from, turn_on, turn_off, Pending, holding, at_step, position_of, job_usable, setting_usable, or_else_nothing, repeat_new, repeat_old, Holds, nothing_more, one_more, Settles, settle, at_positional, placed, place_fault, plain_turn, plain_walked, trailing_turn, trailing_walked}

loud_first : (a b : Kinds) → is_quiet a ≡ false → is_quiet (or_else a b) ≡ false
loud_first a b loud = quiet_or a b ∙ ap (λ q. q && is_quiet b) loud

-- ---- the end of the words

ended_is : (seen : List Item) (pending : Pending) (all : List Item) → Holds seen pending all → are_distinct seen ≡ true → ended (holding seen pending) ≡ outcome all (Some [])
ended_is seen pending all holds distinct = elim (settle seen pending all holds distinct) [
  | inl s ↦ ap (λ (kinds : Kinds). if is_quiet kinds then Some (settled top.rules (holding seen pending)).rows else None) s.quiet
      ∙ ap (λ (h : Held). Some h.rows) s.held
      ∙ sym (ap (λ (items : List Item). if are_distinct items then Some (map row_of_item items) else None) (append-nil all)
      ∙ ap (λ (b : Bool). if b then Some (map row_of_item all) else None) s.distinct)
  | inr c ↦ ap (λ (b : Bool). if b then Some (settled top.rules (holding seen pending)).rows else None) c.loud ∙ sym (c.none (Some []))
]

-- ---- a word that goes to the positional

to_place : (word : Text) (words : List Text) (seen : List Item) (pending : Pending) (all : List Item) → Holds seen pending all → are_distinct seen ≡ true
    → (j : Bool) → is_labelled all job_label ≡ j → (trailing : Bool) (items : Option (List Item))
    → turn_fault top [] (at_step seen pending idle (position_of j) trailing) word ≡ step_fault top (position_of j) (holding seen pending) value
    → walked top.rules [] (at_step seen pending idle (position_of j) trailing) word ≡ at_positional seen pending (position_of j) trailing word
    → (are_distinct all ≡ true → is_labelled (all ++ JobWord word ∷ []) job_label ≡ true
    → rows_from words (at_step all (Some (job_label, word ∷ [])) idle 2 trailing) ≡ outcome (all ++ JobWord word ∷ []) items)
    → rows_from (word ∷ words) (at_step seen pending idle (position_of j) trailing) ≡ outcome all (prepend (JobWord word) items)
to_place word words seen pending all holds distinct true job trailing items turn walk rest =
    turn_off word words (at_step seen pending idle 2 trailing) (ap is_quiet turn) ∙ sym (outcome_twice all (JobWord word) items job)
to_place word words seen pending all holds distinct false job trailing items turn walk rest =
    let labelled : is_labelled (all ++ JobWord word ∷ []) job_label ≡ true = labelled_more all (JobWord word) job_label ∙ ap (λ b. b || true) job in
    elim (settle seen pending all holds distinct) [
      | inl s ↦ turn_on word words (at_step seen pending idle 1 trailing) (at_step all (Some (job_label, word ∷ [])) idle 2 trailing)
          (turn ∙ place_fault seen pending ∙ s.quiet) (walk ∙ placed seen pending all word trailing s.held)
          ∙ rest s.distinct labelled ∙ sym (outcome_more all (JobWord word) items)
      | inr c ↦ turn_off word words (at_step seen pending idle 1 trailing) (ap is_quiet (turn ∙ place_fault seen pending) ∙ c.loud) ∙ sym (c.none (prepend (JobWord word) items))
    ]

-- after `--`
trailing_rows : (words : List Text) (seen : List Item) (pending : Pending) (all : List Item) → Holds seen pending all → are_distinct seen ≡ true
    → (j : Bool) → is_labelled all job_label ≡ j → rows_from words (at_step seen pending idle (position_of j) true) ≡ outcome all (Some (map JobWord words))
trailing_rows [] seen pending all holds distinct j job = ended_is seen pending all holds distinct
trailing_rows (word ∷ words) seen pending all holds distinct j job =
    to_place word words seen pending all holds distinct j job true (Some (map JobWord words))
    (trailing_turn seen pending (position_of j) word) (trailing_walked seen pending (position_of j) word)
    (λ only labelled. trailing_rows words all (Some (job_label, word ∷ [])) (all ++ JobWord word ∷ []) (one_more (JobWord word) (job_usable word)) only true labelled)

-- ---- an option that wants its value

loud_wait : (seen : List Item) (label : Text) → is_among label option_names ≡ true → is_quiet (settle_fault top.rules false (holding seen (Some (label, [])))) ≡ false
loud_wait seen label known =
    ap (λ (rule : Option Rule). is_quiet (option_map_or (λ a. use_fault false a [] (map row_of_item seen)) rule [])) (found_by_id label known)

wait_ended : (seen : List Item) (label : Text) → is_among label option_names ≡ true → ended (holding seen (Some (label, []))) ≡ None
wait_ended seen label known =
    ap (λ (b : Bool). if b then Some (settled top.rules (holding seen (Some (label, [])))).rows else None) (loud_wait seen label known)

wait_placed : (seen : List Item) (label : Text) → is_among label option_names ≡ true → (j : Bool) → is_quiet (step_fault top (position_of j) (holding seen (Some (label, []))) value) ≡ false
wait_placed seen label known true = refl
wait_placed seen label known false = ap is_quiet (place_fault seen (Some (label, []))) ∙ loud_wait seen label known

stuck_rows : (words : List Text) (seen : List Item) (label : Text) → is_among label option_names ≡ true → (j : Bool)
    → rows_from words (at_step seen (Some (label, [])) (option label) (position_of j) true) ≡ None
stuck_rows [] seen label known j = wait_ended seen label known
stuck_rows (word ∷ words) seen label known j = turn_off word words (at_step seen (Some (label, [])) (option label) (position_of j) true) (wait_placed seen label known j)

-- ---- the two claims of the words that follow: where nothing waits, and where an option wants its value

abbrev IdleClaim : List Text → Type 0
IdleClaim words = (seen : List Item) (pending : Pending) (all : List Item) → Holds seen pending all → are_distinct seen ≡ true → (j : Bool) → is_labelled all job_label ≡ j
    → rows_from words (at_step seen pending idle (position_of j) false) ≡ outcome all (items_after words None)

abbrev WaitClaim : List Text → Type 0
WaitClaim words = (seen : List Item) → are_distinct seen ≡ true → (label : Text) → is_among label option_names ≡ true → (j : Bool) → is_labelled seen job_label ≡ j
    → rows_from words (at_step seen (Some (label, [])) (option label) (position_of j) false) ≡ outcome seen (items_after words (Some label))

-- ---- a word that no flag and no option is

-- the first of a bundle's characters is no flag's
bundle_loud : (flags : Text) (first : ℕ) (h : Held) → 0 < length flags → slice_get (chars flags) 0 ≡ Some first → is_quiet (flags_fault top.rules false (length flags) flags 0 h) ≡ false
unfolding flags_fault
bundle_loud [] first h some is = absurd (omega arith)
bundle_loud (x ∷ xs) first h some is = rw is refl

module _ (word : Text) (first : ℕ) (flags : Text) (end : bytes_eq word (45 ∷ 45 ∷ []) ≡ false) (long : long_of word ≡ None) (short : short_of word ≡ Some flags)
    (some : 0 < length flags) (is : slice_get (chars flags) 0 ≡ Some first) where
  stray_idle : (seen : List Item) (pending : Pending) (position : ℕ) → is_quiet (turn_fault top [] (at_step seen pending idle position false) word) ≡ false
  stray_idle seen pending position = rw (end, long, short) (loud_first (bundle_fault top.rules false flags (holding seen pending)) _ (bundle_loud flags first (holding seen pending) some is))

  stray_wait : (seen : List Item) (label : Text) (position : ℕ) → is_quiet (turn_fault top [] (at_step seen (Some (label, [])) (option label) position false) word) ≡ false
  stray_wait seen label position = rw (end, long, short) (loud_first (bundle_fault top.rules false flags (holding seen (Some (label, [])))) _ (bundle_loud flags first (holding seen (Some (label, []))) some is))

-- ---- `--`

end_turn : (seen : List Item) (pending : Pending) (position : ℕ) (word : Text) → bytes_eq word (45 ∷ 45 ∷ []) ≡ true
    → turn_fault top [] (at_step seen pending idle position false) word ≡ []
end_turn seen pending position word end = rw end refl

end_walked : (seen : List Item) (pending : Pending) (position : ℕ) (word : Text) → bytes_eq word (45 ∷ 45 ∷ []) ≡ true
    → walked top.rules [] (at_step seen pending idle position false) word ≡ at_step seen pending idle position true
unfolding walked
end_walked seen pending position word end = rw end refl

wait_end_turn : (seen : List Item) (label : Text) (position : ℕ) (word : Text) → bytes_eq word (45 ∷ 45 ∷ []) ≡ true
    → turn_fault top [] (at_step seen (Some (label, [])) (option label) position false) word ≡ []
wait_end_turn seen label position word end = rw end refl

wait_end_walked : (seen : List Item) (label : Text) (position : ℕ) (word : Text) → bytes_eq word (45 ∷ 45 ∷ []) ≡ true
    → walked top.rules [] (at_step seen (Some (label, [])) (option label) position false) word ≡ at_step seen (Some (label, [])) (option label) position true
unfolding walked
wait_end_walked seen label position word end = rw end refl

-- ---- a value that is a word of its own

wait_plain_turn : (seen : List Item) (label : Text) (position : ℕ) (word : Text) → bytes_eq word (45 ∷ 45 ∷ []) ≡ false → long_of word ≡ None → short_of word ≡ None
    → turn_fault top [] (at_step seen (Some (label, [])) (option label) position false) word ≡ []
wait_plain_turn seen label position word end long short = rw (end, long, short) refl

-- the walk after such a word, by the rule that the label finds
abbrev valued_walk : List Item → Text → ℕ → Text → Option Rule → Walk
valued_walk seen label position word rule =
    let met = option_word rule label word (holding seen (Some (label, []))) in
    record { held = met.0; waiting = met.1; position = position; is_trailing = false; stopped = None }

wait_plain_walked : (seen : List Item) (label : Text) (position : ℕ) (word : Text) → is_among label option_names ≡ true → bytes_eq word (45 ∷ 45 ∷ []) ≡ false → long_of word ≡ None → short_of word ≡ None
    → walked top.rules [] (at_step seen (Some (label, [])) (option label) position false) word ≡ at_step seen (Some (label, word ∷ [])) idle position false
unfolding walked
wait_plain_walked seen label position word known end long short =
    let by_rule : walked top.rules [] (at_step seen (Some (label, [])) (option label) position false) word ≡ valued_walk seen label position word (arg_by_id top.rules label) =
    rw (end, long, short) refl in
    by_rule ∙ ap (valued_walk seen label position word) (found_by_id label known)
    ∙ ap (λ (b : Bool). record {
      held = holding seen (Some (label, word ∷ []));
      waiting = if nat_lt (if b then 1 else 0) 1 then option label else idle;
      position = position;
      is_trailing = false;
      stopped = None;
    }) (text_is label)

-- ---- `--name` and `--name=value`

name_turn : (seen : List Item) (pending : Pending) (position : ℕ) (word label : Text) (text : Option Text) → bytes_eq word (45 ∷ 45 ∷ []) ≡ false → long_of word ≡ Some (label, text)
    → turn_fault top [] (at_step seen pending idle position false) word
    ≡ or_else (long_fault top.rules false (arg_by_long top.rules label) text (holding seen pending))
    (step_fault top position (long_word top.rules idle word label text (holding seen pending)).0 (long_word top.rules idle word label text (holding seen pending)).1)
name_turn seen pending position word label text end long = rw (end, long) refl

name_walked : (seen : List Item) (pending : Pending) (position : ℕ) (word label : Text) (text : Option Text) → bytes_eq word (45 ∷ 45 ∷ []) ≡ false → long_of word ≡ Some (label, text)
    → walked top.rules [] (at_step seen pending idle position false) word
    ≡ after_step top.rules word (at_step seen pending idle position false) (long_word top.rules idle word label text (holding seen pending)).0 (long_word top.rules idle word label text (holding seen pending)).1
unfolding walked
name_walked seen pending position word label text end long = rw (end, long) refl

-- an option that wants its value refuses any other option or flag
wait_name : (seen : List Item) (wanting : Text) (position : ℕ) (word label : Text) (text : Option Text) → is_among wanting option_names ≡ true → bytes_eq word (45 ∷ 45 ∷ []) ≡ false → long_of word ≡ Some (label, text)
    → is_quiet (turn_fault top [] (at_step seen (Some (wanting, [])) (option wanting) position false) word) ≡ false
wait_name seen wanting position word label text known end long =
    rw (end, long) (loud_first (long_fault top.rules false (arg_by_long top.rules label) text (holding seen (Some (wanting, [])))) _
    (ap (λ (rule : Option Rule). is_quiet (long_fault top.rules false rule text (holding seen (Some (wanting, []))))) (found_by_long label)
    ∙ go (is_among label option_names) (is_among label flag_names) text))
  where
    go : (a b : Bool) (t : Option Text)
        → is_quiet (long_fault top.rules false (if a then Some (option_built label) else if b then Some (flag_built label) else None) t (holding seen (Some (wanting, [])))) ≡ false
    go true b (Some t) = loud_first (settle_fault top.rules false (holding seen (Some (wanting, [])))) _ (loud_wait seen wanting known)
    go true b None = loud_wait seen wanting known
    go false true (Some t) = refl
    go false true None = loud_first (settle_fault top.rules false (holding seen (Some (wanting, [])))) _ (loud_wait seen wanting known)
    go false false t = refl

-- an item that is used at once: its rule takes these values
record Acts (item : Item) (rule : Rule) (values : List Text) : Type 0 where
  fault : (rows : List Row) → use_fault false rule values rows ≡ repeat_fault false (label_of item) rows
  use_is : (seen : List Item) → is_labelled seen (label_of item) ≡ false → used rule values (map row_of_item seen) ≡ map row_of_item (seen ++ item ∷ [])

setting_acts : (label text : Text) → Acts (Setting label text) (option_built label) (text ∷ [])
setting_acts label text = record {
  fault = λ rows. or_else_nothing (repeat_fault false label rows);
  use_is = λ seen new. row_joins seen (Setting label text) new;
}

flag_acts : (label : Text) → Acts (Flag label) (flag_built label) []
flag_acts label = record {
  fault = λ rows. or_else_nothing (repeat_fault false label rows);
  use_is = λ seen new. row_joins seen (Flag label) new;
}

abbrev with_held : Held → ℕ → Walk
with_held h position = record { held = h; waiting = idle; position = position; is_trailing = false; stopped = None }

reacts : (word : Text) (words : List Text) (seen : List Item) (pending : Pending) (all : List Item) → Holds seen pending all → are_distinct seen ≡ true
    → (position : ℕ) (item : Item) (rule : Rule) (values : List Text) → Acts item rule values → (items : Option (List Item))
    → turn_fault top [] (at_step seen pending idle position false) word ≡ or_else (react_fault top.rules false rule values (holding seen pending)) []
    → walked top.rules [] (at_step seen pending idle position false) word ≡ with_held (reacted top.rules rule values (holding seen pending)) position
    → (are_distinct (all ++ item ∷ []) ≡ true → rows_from words (at_step (all ++ item ∷ []) None idle position false) ≡ outcome (all ++ item ∷ []) items)
    → rows_from (word ∷ words) (at_step seen pending idle position false) ≡ outcome all (prepend item items)
reacts word words seen pending all holds distinct position item rule values acts items turn walk rest =
    elim (settle seen pending all holds distinct) [
      | inl s ↦
          let passed : react_fault top.rules false rule values (holding seen pending) ≡ repeat_fault false (label_of item) (map row_of_item all) =
          ap (λ (k : Kinds). or_else k (use_fault false rule values (settled top.rules (holding seen pending)).rows)) s.quiet
          ∙ ap (λ (h : Held). use_fault false rule values h.rows) s.held ∙ acts.fault (map row_of_item all) in
          go passed s (is_labelled all (label_of item)) refl
      | inr c ↦ turn_off word words (at_step seen pending idle position false)
          (ap is_quiet turn ∙ loud_first (react_fault top.rules false rule values (holding seen pending)) []
          (loud_first (settle_fault top.rules false (holding seen pending)) (use_fault false rule values (settled top.rules (holding seen pending)).rows) c.loud))
          ∙ sym (c.none (prepend item items))
    ]
  where
    go : react_fault top.rules false rule values (holding seen pending) ≡ repeat_fault false (label_of item) (map row_of_item all) → Settles seen pending all
        → (b : Bool) → is_labelled all (label_of item) ≡ b → rows_from (word ∷ words) (at_step seen pending idle position false) ≡ outcome all (prepend item items)
    go passed s true e =
        turn_off word words (at_step seen pending idle position false)
        (ap is_quiet turn ∙ loud_first (react_fault top.rules false rule values (holding seen pending)) [] (ap is_quiet passed ∙ repeat_old all (label_of item) e))
        ∙ sym (outcome_twice all item items e)
    go passed s false e =
        turn_on word words (at_step seen pending idle position false) (at_step (all ++ item ∷ []) None idle position false)
        (turn ∙ or_else_nothing (react_fault top.rules false rule values (holding seen pending)) ∙ passed ∙ repeat_new all (label_of item) e)
        (walk ∙ ap (λ (h : Held). with_held (record { rows = used rule values h.rows; pending = None; skip = 0 }) position) s.held
        ∙ ap (λ (rows : List Row). with_held (record { rows = rows; pending = None; skip = 0 }) position) (acts.use_is all e))
        ∙ rest (once all item s.distinct e) ∙ sym (outcome_more all item items)

-- an item that is no job word leaves whether there is one
still : (all : List Item) (item : Item) (j : Bool) → is_labelled all job_label ≡ j → bytes_eq job_label (label_of item) ≡ false → is_labelled (all ++ item ∷ []) job_label ≡ j
still all item j job other =
    labelled_more all item job_label ∙ ap (λ b. is_labelled all job_label || b) (either_way (label_of item) job_label ∙ other)
    ∙ or_false (is_labelled all job_label) ∙ job

-- an option whose value is the next word
wants : (word : Text) (words : List Text) (seen : List Item) (pending : Pending) (all : List Item) → Holds seen pending all → are_distinct seen ≡ true
    → (label : Text) (j : Bool) → is_labelled all job_label ≡ j → is_among label option_names ≡ true → WaitClaim words
    → turn_fault top [] (at_step seen pending idle (position_of j) false) word ≡ or_else (settle_fault top.rules false (holding seen pending)) []
    → walked top.rules [] (at_step seen pending idle (position_of j) false) word
    ≡ record { held = record (settled top.rules (holding seen pending)) { pending = Some (label, []) }; waiting = option label; position = position_of j; is_trailing = false; stopped = None }
    → rows_from (word ∷ words) (at_step seen pending idle (position_of j) false) ≡ outcome all (items_after words (Some label))
wants word words seen pending all holds distinct label j job known wait turn walk =
    elim (settle seen pending all holds distinct) [
      | inl s ↦ turn_on word words (at_step seen pending idle (position_of j) false) (at_step all (Some (label, [])) (option label) (position_of j) false)
          (turn ∙ or_else_nothing (settle_fault top.rules false (holding seen pending)) ∙ s.quiet)
          (walk ∙ ap (λ (h : Held). record { held = record h { pending = Some (label, []) }; waiting = option label; position = position_of j; is_trailing = false; stopped = None }) s.held)
          ∙ wait all s.distinct label known j job
      | inr c ↦ turn_off word words (at_step seen pending idle (position_of j) false)
          (ap is_quiet turn ∙ loud_first (settle_fault top.rules false (holding seen pending)) [] c.loud)
          ∙ sym (c.none (items_after words (Some label)))
    ]

-- the turn and the walk of a name, by the rule that it finds
abbrev turn_by : List Item → Pending → ℕ → Text → Option Text → Option Rule → Kinds
turn_by seen pending position word text rule =
    let met = long_met top.rules rule text (holding seen pending) in
    or_else (long_fault top.rules false rule text (holding seen pending))
    (step_fault top position (after_flag top.rules idle word met.0 met.1).0 (after_flag top.rules idle word met.0 met.1).1)

abbrev walk_by : List Item → Pending → ℕ → Text → Option Text → Option Rule → Walk
walk_by seen pending position word text rule =
    let met = long_met top.rules rule text (holding seen pending) in
    after_step top.rules word (at_step seen pending idle position false) (after_flag top.rules idle word met.0 met.1).0 (after_flag top.rules idle word met.0 met.1).1

name_rows : (word : Text) (words : List Text) (label : Text) (text : Option Text) → bytes_eq word (45 ∷ 45 ∷ []) ≡ false → long_of word ≡ Some (label, text) → IdleClaim words → WaitClaim words
    → (seen : List Item) (pending : Pending) (all : List Item) → Holds seen pending all → are_distinct seen ≡ true → (j : Bool) → is_labelled all job_label ≡ j
    → rows_from (word ∷ words) (at_step seen pending idle (position_of j) false) ≡ outcome all (said (name label text) word words (items_after words))
name_rows word words label text end long rest wait seen pending all holds distinct j job =
    go text (is_among label option_names) (is_among label flag_names) refl refl
    (λ rule found. name_turn seen pending (position_of j) word label text end long ∙ ap (turn_by seen pending (position_of j) word text) (found_by_long label ∙ found))
    (λ rule found. name_walked seen pending (position_of j) word label text end long ∙ ap (walk_by seen pending (position_of j) word text) (found_by_long label ∙ found))
  where
    go : (t : Option Text) (a b : Bool) → is_among label option_names ≡ a → is_among label flag_names ≡ b
        → ((rule : Option Rule) → (if is_among label option_names then Some (option_built label) else if is_among label flag_names then Some (flag_built label) else None) ≡ rule
        → turn_fault top [] (at_step seen pending idle (position_of j) false) word ≡ turn_by seen pending (position_of j) word t rule)
        → ((rule : Option Rule) → (if is_among label option_names then Some (option_built label) else if is_among label flag_names then Some (flag_built label) else None) ≡ rule
        → walked top.rules [] (at_step seen pending idle (position_of j) false) word ≡ walk_by seen pending (position_of j) word t rule)
        → rows_from (word ∷ words) (at_step seen pending idle (position_of j) false)
        ≡ outcome all (if a then valued label t (items_after words) else if b && is_none t then prepend (Flag label) (items_after words None) else None)
    go (Some t) true b ea eb turn walk =
        let found = ap (λ x. if x then Some (option_built label) else if is_among label flag_names then Some (flag_built label) else None) ea in
        reacts word words seen pending all holds distinct (position_of j) (Setting label t) (option_built label) (t ∷ []) (setting_acts label t) (items_after words None)
        (turn (Some (option_built label)) found) (walk (Some (option_built label)) found)
        (λ only. rest (all ++ Setting label t ∷ []) None (all ++ Setting label t ∷ []) nothing_more only j (still all (Setting label t) j job (no_job_option label ea)))
    go None true b ea eb turn walk =
        let found = ap (λ x. if x then Some (option_built label) else if is_among label flag_names then Some (flag_built label) else None) ea in
        wants word words seen pending all holds distinct label j job ea wait (turn (Some (option_built label)) found) (walk (Some (option_built label)) found)
    go (Some t) false true ea eb turn walk =
        let found = ap (λ x. if x then Some (option_built label) else if is_among label flag_names then Some (flag_built label) else None) ea
        ∙ ap (λ x. if x then Some (flag_built label) else None) eb in
        turn_off word words (at_step seen pending idle (position_of j) false) (ap is_quiet (turn (Some (flag_built label)) found))
    go None false true ea eb turn walk =
        let found = ap (λ x. if x then Some (option_built label) else if is_among label flag_names then Some (flag_built label) else None) ea
        ∙ ap (λ x. if x then Some (flag_built label) else None) eb in
        reacts word words seen pending all holds distinct (position_of j) (Flag label) (flag_built label) [] (flag_acts label) (items_after words None)
        (turn (Some (flag_built label)) found) (walk (Some (flag_built label)) found)
        (λ only. rest (all ++ Flag label ∷ []) None (all ++ Flag label ∷ []) nothing_more only j (still all (Flag label) j job (no_job_flag label eb)))
    go t false false ea eb turn walk =
        let found = ap (λ x. if x then Some (option_built label) else if is_among label flag_names then Some (flag_built label) else None) ea
        ∙ ap (λ x. if x then Some (flag_built label) else None) eb in
        turn_off word words (at_step seen pending idle (position_of j) false) (ap is_quiet (turn None found))

-- ---- all words

abbrev pub AreUtf8 : List Text → Type 0
AreUtf8 [] = Unit {0}
AreUtf8 (word ∷ words) = IsUtf8 word × AreUtf8 words

idle_step : (word : Text) (words : List Text) → View word → IdleClaim words → WaitClaim words → IdleClaim (word ∷ words)
idle_step word words (is_plain_word spelt end long short) rest wait seen pending all holds distinct j job =
    to_place word words seen pending all holds distinct j job false (items_after words None)
    (plain_turn seen pending (position_of j) word end long short) (plain_walked seen pending (position_of j) word end long short)
    (λ only labelled. rest all (Some (job_label, word ∷ [])) (all ++ JobWord word ∷ []) (one_more (JobWord word) (job_usable word)) only true labelled)
    ∙ ap (λ s. outcome all (said s word words (items_after words))) (sym spelt)
idle_step word words (is_end spelt end) rest wait seen pending all holds distinct j job =
    turn_on word words (at_step seen pending idle (position_of j) false) (at_step seen pending idle (position_of j) true)
    (end_turn seen pending (position_of j) word end) (end_walked seen pending (position_of j) word end)
    ∙ trailing_rows words seen pending all holds distinct j job
    ∙ ap (λ s. outcome all (said s word words (items_after words))) (sym spelt)
idle_step word words (is_name label text spelt end long) rest wait seen pending all holds distinct j job =
    name_rows word words label text end long rest wait seen pending all holds distinct j job
    ∙ ap (λ s. outcome all (said s word words (items_after words))) (sym spelt)
idle_step word words (is_stray first flags spelt end long short some is) rest wait seen pending all holds distinct j job =
    turn_off word words (at_step seen pending idle (position_of j) false) (stray_idle word first flags end long short some is seen pending (position_of j))
    ∙ ap (λ s. outcome all (said s word words (items_after words))) (sym spelt)

wait_step : (word : Text) (words : List Text) → View word → IdleClaim words → WaitClaim (word ∷ words)
wait_step word words (is_plain_word spelt end long short) rest seen distinct label known j job =
    turn_on word words (at_step seen (Some (label, [])) (option label) (position_of j) false) (at_step seen (Some (label, word ∷ [])) idle (position_of j) false)
    (wait_plain_turn seen label (position_of j) word end long short) (wait_plain_walked seen label (position_of j) word known end long short)
    ∙ rest seen (Some (label, word ∷ [])) (seen ++ Setting label word ∷ []) (one_more (Setting label word) (setting_usable label word known)) distinct j
    (still seen (Setting label word) j job (no_job_option label known))
    ∙ sym (outcome_more seen (Setting label word) (items_after words None))
    ∙ ap (λ s. outcome seen (if is_plain s then prepend (Setting label word) (items_after words None) else None)) (sym spelt)
wait_step word words (is_end spelt end) rest seen distinct label known j job =
    turn_on word words (at_step seen (Some (label, [])) (option label) (position_of j) false) (at_step seen (Some (label, [])) (option label) (position_of j) true)
    (wait_end_turn seen label (position_of j) word end) (wait_end_walked seen label (position_of j) word end)
    ∙ stuck_rows words seen label known j
    ∙ ap (λ s. outcome seen (if is_plain s then prepend (Setting label word) (items_after words None) else None)) (sym spelt)
wait_step word words (is_name other text spelt end long) rest seen distinct label known j job =
    turn_off word words (at_step seen (Some (label, [])) (option label) (position_of j) false) (wait_name seen label (position_of j) word other text known end long)
    ∙ ap (λ s. outcome seen (if is_plain s then prepend (Setting label word) (items_after words None) else None)) (sym spelt)
wait_step word words (is_stray first flags spelt end long short some is) rest seen distinct label known j job =
    turn_off word words (at_step seen (Some (label, [])) (option label) (position_of j) false) (stray_wait word first flags end long short some is seen label (position_of j))
    ∙ ap (λ s. outcome seen (if is_plain s then prepend (Setting label word) (items_after words None) else None)) (sym spelt)

claims : (words : List Text) → AreUtf8 words → IdleClaim words × WaitClaim words
claims [] utf8 = (
  λ seen pending all holds distinct j job. ended_is seen pending all holds distinct,
  λ seen distinct label known j job. wait_ended seen label known,
)
claims (word ∷ words) utf8 =
    let rest = claims words utf8.1 in
    let seen_word = view word utf8.0 in
    (idle_step word words seen_word rest.0 rest.1, wait_step word words seen_word rest.0)

-- the walk over all words ends with the rows of their items, where they have items, each once
pub rows_are : (words : List Text) → AreUtf8 words → rows_from words (at_step [] None idle 1 false) ≡ outcome [] (items_after words None)
rows_are words utf8 = (claims words utf8).0 [] None [] nothing_more refl false refl
