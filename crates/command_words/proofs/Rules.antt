-- The rules of the command as it is built, and how they are found.
use Rattle.std.proofs.Common.{◌≡◌, ◌∙◌, ◌||◌, Bool, true, false, List, [], ◌∷◌, ◌++◌, map, Option, Some, None, refl, sym, ap, true≢false, codes}
use Rattle.std.specs.Prelude.{if◌then◌else◌}
use Rattle.std.specs.Str.{bytes_eq}
use Rattle.clap.specs.Walk.{Rule, arg_by_id, arg_by_long, arg_by_index}
use Rattle.clap.specs.Simple.{Shape, built, new_rule}
use Rattle.clap.specs.declared.builder.action.ArgAction.TheVariants.{Set, SetTrue}
use Rattle.clap.specs.declared.builder.value_parser.ValueParser.TheVariants as vp
use Rattle.command_words.specs.Items.{Text, is_among, option_names, flag_names, job_label}
use Rattle.command_words.specs.Found.{words_app}
use Rattle.command_words.proofs.Items.{same_text}

-- the built rules: of the job word, an option, a flag
abbrev pub job_built : Rule
job_built = record (new_rule job_label) {
  index = Some 1;
  action = Some Set;
  range = Some (record { start_inclusive = 1; end_inclusive = 1 });
  parser = Some vp.String;
}

abbrev pub option_built : Text → Rule
option_built name = record (new_rule name) {
  long = Some name;
  action = Some Set;
  range = Some (record { start_inclusive = 1; end_inclusive = 1 });
  parser = Some vp.String;
}

abbrev pub flag_built : Text → Rule
flag_built name = record (new_rule name) {
  long = Some name;
  action = Some SetTrue;
  range = Some (record { start_inclusive = 0; end_inclusive = 0 });
  parser = Some vp.Bool;
  defaults = codes "false" ∷ [];
  missing = codes "true" ∷ [];
}

abbrev pub rules_with : List Text → List Text → List Rule
rules_with options flags = job_built ∷ map option_built options ++ map flag_built flags

abbrev pub top : Shape
top = (built words_app).top

pub rules_are : top.rules ≡ rules_with option_names flag_names
rules_are = refl

-- the rule that a long name finds among some options and flags
abbrev found_long : List Text → List Text → Text → Option Rule
found_long options flags name =
    if is_among name options then Some (option_built name) else if is_among name flags then Some (flag_built name) else None

long_flags : (flags : List Text) (name : Text) → arg_by_long (map flag_built flags) name ≡ found_long [] flags name
long_flags [] name = refl
long_flags (flag ∷ flags) name = go (bytes_eq flag name) refl (long_flags flags name)
  where
    go : (b : Bool) → bytes_eq flag name ≡ b → arg_by_long (map flag_built flags) name ≡ found_long [] flags name
        → (if b || false then Some (flag_built flag) else arg_by_long (map flag_built flags) name) ≡ (if b || is_among name flags then Some (flag_built name) else None)
    go true e rest = ap (λ n. Some (flag_built n)) (same_text flag name e)
    go false e rest = rest

long_options : (options flags : List Text) (name : Text) → arg_by_long (map option_built options ++ map flag_built flags) name ≡ found_long options flags name
long_options [] flags name = long_flags flags name
long_options (option ∷ options) flags name = go (bytes_eq option name) refl (long_options options flags name)
  where
    go : (b : Bool) → bytes_eq option name ≡ b → arg_by_long (map option_built options ++ map flag_built flags) name ≡ found_long options flags name
        → (if b || false then Some (option_built option) else arg_by_long (map option_built options ++ map flag_built flags) name)
        ≡ (if b || is_among name options then Some (option_built name) else if is_among name flags then Some (flag_built name) else None)
    go true e rest = ap (λ n. Some (option_built n)) (same_text option name e)
    go false e rest = rest

-- a long name finds its option or its flag
pub found_by_long : (name : Text) → arg_by_long top.rules name
    ≡ (if is_among name option_names then Some (option_built name) else if is_among name flag_names then Some (flag_built name) else None)
found_by_long name = long_options option_names flag_names name

id_options : (options flags : List Text) (name : Text) → is_among name options ≡ true
    → arg_by_id (map option_built options ++ map flag_built flags) name ≡ Some (option_built name)
id_options [] flags name h = absurd (true≢false (sym h))
id_options (option ∷ options) flags name h = go (bytes_eq option name) refl h (id_options options flags name)
  where
    go : (b : Bool) → bytes_eq option name ≡ b → (b || is_among name options) ≡ true
        → (is_among name options ≡ true → arg_by_id (map option_built options ++ map flag_built flags) name ≡ Some (option_built name))
        → (if b then Some (option_built option) else arg_by_id (map option_built options ++ map flag_built flags) name) ≡ Some (option_built name)
    go true e g rest = ap (λ n. Some (option_built n)) (same_text option name e)
    go false e g rest = rest g

-- no option is labelled as job words are
pub no_job_option : (name : Text) → is_among name option_names ≡ true → bytes_eq job_label name ≡ false
no_job_option name h = go (bytes_eq job_label name) refl
  where
    go : (b : Bool) → bytes_eq job_label name ≡ b → b ≡ false
    go false e = refl
    go true e = sym h ∙ ap (λ n. is_among n option_names) (sym (same_text job_label name e))

pub no_job_flag : (name : Text) → is_among name flag_names ≡ true → bytes_eq job_label name ≡ false
no_job_flag name h = go (bytes_eq job_label name) refl
  where
    go : (b : Bool) → bytes_eq job_label name ≡ b → b ≡ false
    go false e = refl
    go true e = sym h ∙ ap (λ n. is_among n flag_names) (sym (same_text job_label name e))

-- an option is found by its name
pub found_by_id : (name : Text) → is_among name option_names ≡ true → arg_by_id top.rules name ≡ Some (option_built name)
found_by_id name h = ap (λ b. if b then Some job_built else arg_by_id (map option_built option_names ++ map flag_built flag_names) name) (no_job_option name h)
    ∙ id_options option_names flag_names name h

pub job_by_id : arg_by_id top.rules job_label ≡ Some job_built
job_by_id = refl

pub job_by_index : arg_by_index top.rules 1 ≡ Some job_built
job_by_index = refl

pub none_by_index : arg_by_index top.rules 2 ≡ None
none_by_index = refl
