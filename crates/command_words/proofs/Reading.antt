-- From what the parser promises to what words mean.
use Rattle.std.proofs.Common.{◌≡◌, ◌∙◌, ◌||◌, ◌⊎◌, Bool, true, false, List, [], ◌∷◌, ◌++◌, map, Option, Some, None, Result, Ok, Err, refl, sym, ap, ap₂, subst, true≢false, inl, inr, String}
use Rattle.std.specs.Prelude.{IsSomeAnd, IsErrAnd, IfOk, option_and_then, is_none, is_ok, ok_or}
use Rattle.std.specs.Global.{Global}
use Rattle.std.specs.Borrow.{Bor}
use Rattle.std.specs.Str.{bytes_eq}
use Rattle.std.specs.List.{list_all, list_any}
use Rattle.clap.specs.Values.{kind_of}
use Rattle.clap.specs.Simple.{App, HasMatchesOf}
use Rattle.clap.specs.Kinds.{Kinds, HasKind, IsAmong}
use Rattle.clap.specs.Faults.{fault_of, is_simple_and_free}
use Rattle.clap.specs.declared.error.Error.{Error}
use Rattle.clap.specs.declared.error.kind.ErrorKind.{ErrorKind}
use Rattle.clap.specs.declared.parser.matches.ArgMatches.{ArgMatches}
use Rattle.clap.proofs.WalkLemmas.{list_any-map}
use Rattle.command_words.specs.Items.{Text, Item, texts_of, items_of, given, is_among, option_names, flag_names, job_label}
use Rattle.command_words.specs.Found.{words_app, said_by_rows, Finds, says_only}
use Rattle.command_words.specs.Refusal.{fault_of_kind}
use Rattle.command_words.specs.Jobs.{Said, has_only, job_of, job_said, job_if_only, job_name_of}
use Rattle.command_words.specs.declared.fault.WordsFault.{WordsFault}
use Rattle.command_words.specs.declared.fault.WordsFault.TheVariants.{Refused, Memory}
use Rattle.command_words.specs.declared.job.Job.{Job}
use Rattle.command_words.specs.declared.job_name.JobName.{JobName}
use Rattle.command_words.proofs.Steps.{is_quiet}
use Rattle.command_words.proofs.Parse.{parse_finds, parse_refuses, words_utf8}

is_memory : WordsFault → Bool
is_memory Memory = true
is_memory Refused = false

pub memory≢refused : Memory ≡ Refused → ⊥
unfolding is_memory
memory≢refused e = true≢false (ap is_memory e)

among_loud : (kind : ErrorKind) (kinds : Kinds) → IsAmong kind kinds → is_quiet kinds ≡ false
among_loud kind [] h = absurd h
among_loud kind (k ∷ ks) h = refl

-- where the parse of this command is refused, and not for memory, the words have no items
pub refused_by : (words : List (String Global)) (app : App) → app ≡ words_app → (e : Error)
    → (is_simple_and_free app ≡ true → HasKind (fault_of app (texts_of words)) e) → fault_of_kind (kind_of e) ≡ Refused → items_of (texts_of words) ≡ None
refused_by words app is e fails refused =
    let has : HasKind (fault_of words_app (texts_of words)) e =
    subst (λ (a : App). (is_simple_and_free a ≡ true → HasKind (fault_of a (texts_of words)) e)) is fails refl in
    elim has [
      | inl memory ↦ absurd (memory≢refused (sym (ap fault_of_kind memory) ∙ refused))
      | inr among ↦ parse_refuses (texts_of words) (words_utf8 words) (among_loud (kind_of e) (fault_of words_app (texts_of words)) among)
    ]

-- where it is not refused, it found what their items say
pub finds_by : (words : List (String Global)) (app : App) → app ≡ words_app → (m : ArgMatches)
    → (is_simple_and_free app ≡ true → fault_of app (texts_of words) ≡ []) → HasMatchesOf app (texts_of words) m
    → IsSomeAnd (items_of (texts_of words)) (λ items. Finds items m)
finds_by words app is m passes has =
    let none : fault_of words_app (texts_of words) ≡ [] = subst (λ (a : App). (is_simple_and_free a ≡ true → fault_of a (texts_of words) ≡ [])) is passes refl in
    let rows = (subst (λ (a : App). HasMatchesOf a (texts_of words) m) is has refl).0 in
    let found = parse_finds (texts_of words) (words_utf8 words) none in
    subst (λ rs. IsSomeAnd (items_of (texts_of words)) (λ items. (label : Text) → said_by_rows rs label ≡ given items label)) (sym rows) found

-- ---- jobs

labels_are : (options : List (Bor Text)) (names : List Text) (say : Said) (labels : List (Bor Text)) → map (λ o. o.now) options ≡ names
    → list_all (λ label. list_any (λ o. bytes_eq o.now label.now) options || is_none (say label.now)) labels
    ≡ list_all (λ label. is_among label names || is_none (say label)) (map (λ l. l.now) labels)
labels_are options names say [] is = refl
labels_are options names say (label ∷ labels) is =
    ap₂ (λ a b. Rattle.std.proofs.Common.◌&&◌ (a || is_none (say label.now)) b)
    (list_any-map (λ (other : Text). bytes_eq other label.now) (λ (o : Bor Text). o.now) options ∙ ap (λ ns. is_among label.now ns) is)
    (labels_are options names say labels is)

-- nothing is said but what the job has
pub only_is : (result : Bool) (labels options : List (Bor Text)) (names : List Text) (say : Said) → result ≡ says_only labels options say
    → map (λ l. l.now) labels ≡ option_names ++ flag_names → map (λ o. o.now) options ≡ names → result ≡ has_only names say
unfolding says_only
only_is result labels options names say only all is =
    only ∙ labels_are options names say labels is ∙ ap (λ ls. list_all (λ label. is_among label names || is_none (say label)) ls) all

pub job_said_is : (say : Said) (word : Text) (name : JobName) → say job_label ≡ Some word → job_name_of word ≡ Some name → job_said say ≡ job_if_only say name
job_said_is say word name said named =
    ap (λ o. option_and_then (λ w. option_and_then (λ n. job_if_only say n) (job_name_of w)) o) said
    ∙ ap (λ o. option_and_then (λ n. job_if_only say n) o) named

pub job_of_is : (words : List Text) (say : Said) → IsSomeAnd (items_of words) (λ items. (label : Text) → say label ≡ given items label) → job_of words ≡ job_said say
job_of_is words say h = go (items_of words) h
  where
    go : (items : Option (List Item)) → IsSomeAnd items (λ is. (label : Text) → say label ≡ given is label)
        → option_and_then (λ is. job_said (given is)) items ≡ job_said say
    go None g = absurd g
    go (Some is) g = λ i. job_said (λ label. sym (g label) i)

pub means_from : (words : List Text) (found : Option Job) → job_of words ≡ found → IfOk (ok_or found Refused) (λ job. job_of words ≡ Some job)
means_from words None h = tt
means_from words (Some job) h = h

pub refused_from : (words : List Text) (found : Option Job) → job_of words ≡ found → ok_or found Refused ≡ Err Refused → job_of words ≡ None
refused_from words None h e = h
refused_from words (Some job) h e = absurd (true≢false (ap is_ok e))

err_of : {T : Type 0} → Result T WordsFault → WordsFault
err_of (Ok x) = Memory
err_of (Err fault) = fault

-- the fault that was made is the one that came
pub fault_told : {T : Type 0} (r : Result T WordsFault) (fault : WordsFault) → IsErrAnd r (λ y. y ≡ fault) → r ≡ Err Refused → fault ≡ Refused
unfolding err_of
fault_told (Ok x) fault h e = absurd h
fault_told (Err y) fault h e = sym h ∙ ap err_of e
