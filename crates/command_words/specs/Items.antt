-- Which job words, options and flags words are.
use Rattle.std.specs.Prelude.{ℕ, ◌==◌, ◌&&◌, ◌||◌, Bool, true, false, not, List, [], ◌∷◌, map, drop, nat_eq, codes, Option, Some, None, is_none, option_map, option_and_then, find, if◌then◌else◌, String, string_bytes}
use Rattle.std.specs.Global.{Global}
use Rattle.std.specs.List.{list_any, starts_with, before_first, after_first}
use Rattle.std.specs.Str.{bytes_eq}

-- the bytes of a word
abbrev pub Text : Type 0
Text = List ℕ

-- the bytes of each word
abbrev pub texts_of : List (String Global) → List Text
texts_of words = map string_bytes words

-- the options, each of which has a value
abbrev pub option_names : List Text
option_names =
    codes "root" ∷ codes "k" ∷ codes "way" ∷ codes "hosts" ∷ codes "masters" ∷ codes "owner" ∷ codes "threshold"
    ∷ codes "rounds" ∷ codes "order" ∷ codes "size" ∷ codes "number" ∷ []

-- the flags, which have none
abbrev pub flag_names : List Text
flag_names = codes "report" ∷ codes "trace" ∷ []

-- whether a text is one of these
abbrev pub is_among : Text → List Text → Bool
is_among text texts = list_any (λ other. bytes_eq other text) texts

-- what a word is by its spelling: a plain word, `--`, `--name` or `--name=value`, or none of these
pub data Spelling : Type 0 where
  plain : Spelling
  end_of_options : Spelling
  name : Text → Option Text → Spelling
  stray : Spelling

-- what stands before the first `=` (61) is the name, and what stands after it, if it is there, the value
abbrev pub named : Text → Spelling
named text =
    name (before_first (λ byte. byte == 61) text)
    (if list_any (λ byte. byte == 61) text then Some (after_first (λ byte. byte == 61) text) else None)

-- A word that begins with no hyphen is plain, and so, by custom, is a hyphen alone; no job and no value is
-- spelt so.
abbrev pub spelling_of : Text → Spelling
spelling_of word =
    if not (starts_with nat_eq word (codes "-")) || bytes_eq word (codes "-") then plain
    else if not (starts_with nat_eq word (codes "--")) then stray
    else if bytes_eq word (codes "--") then end_of_options
    else named (drop 2 word)

abbrev pub is_plain : Spelling → Bool
is_plain plain = true
is_plain _ = false

-- what words say, one thing after another: a job word, an option with its value, a flag
pub data Item : Type 0 where
  JobWord : Text → Item
  Setting : Text → Text → Item
  Flag : Text → Item

abbrev pub prepend : Item → Option (List Item) → Option (List Item)
prepend item = option_map (λ items. item ∷ items)

-- an option has the value behind its `=`, or else the next word
abbrev pub valued : Text → Option Text → (Option Text → Option (List Item)) → Option (List Item)
valued option (Some value) after = prepend (Setting option value) (after None)
valued option None after = after (Some option)

-- a word by its spelling, before other words; `after` says what those are, where an option may want its value
abbrev pub said : Spelling → Text → List Text → (Option Text → Option (List Item)) → Option (List Item)
said plain word words after = prepend (JobWord word) (after None)
said end_of_options word words after = Some (map JobWord words)
said stray word words after = None
said (name option value) word words after =
    if is_among option option_names then valued option value after
    else if is_among option flag_names && is_none value then prepend (Flag option) (after None)
    else None

-- the items of words, the first of which is the value that an option before them wants, if one does
abbrev pub items_after : List Text → Option Text → Option (List Item)
items_after [] None = Some []
items_after [] (Some option) = None
items_after (word ∷ words) None = said (spelling_of word) word words (items_after words)
items_after (word ∷ words) (Some option) =
    if is_plain (spelling_of word) then prepend (Setting option word) (items_after words None) else None

-- the label of job words
abbrev pub job_label : Text
job_label = codes "job"

-- what may stand once: a job word, an option, a flag
abbrev pub label_of : Item → Text
label_of (JobWord word) = job_label
label_of (Setting option value) = option
label_of (Flag flag) = flag

-- what is said under the label
abbrev pub text_of : Item → Text
text_of (JobWord word) = word
text_of (Setting option value) = value
text_of (Flag flag) = codes "true"

abbrev pub is_labelled : List Item → Text → Bool
is_labelled items label = list_any (λ item. bytes_eq (label_of item) label) items

-- no two items have one label
abbrev pub are_distinct : List Item → Bool
are_distinct [] = true
are_distinct (item ∷ items) = not (is_labelled items (label_of item)) && are_distinct items

-- what items say under a label
abbrev pub given : List Item → Text → Option Text
given items label = option_map text_of (find (λ item. bytes_eq (label_of item) label) items)

abbrev pub if_distinct : List Item → Option (List Item)
if_distinct items = if are_distinct items then Some items else None

-- the items of all words, where each is well spelt and nothing is said twice
abbrev pub items_of : List Text → Option (List Item)
items_of words = option_and_then if_distinct (items_after words None)
