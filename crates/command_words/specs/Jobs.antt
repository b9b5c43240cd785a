-- Which job words ask for.
use Rattle.std.specs.Prelude.{ℕ, ◌||◌, Bool, List, [], ◌∷◌, ◌++◌, codes, Option, Some, None, is_some, is_none, option_map, option_and_then, if◌then◌else◌}
use Rattle.std.specs.List.{list_all}
use Rattle.std.specs.Str.{bytes_eq}
use Rattle.graph_model.specs.declared.edge.Way.{Way}
use Rattle.graph_model.specs.declared.edge.Way.TheVariants.{Outward, Both}
use Rattle.edge_owner.specs.declared.rules.Rules.{Rules}
use Rattle.command_words.specs.declared.job.Job.{Job}
use Rattle.command_words.specs.declared.job.Job.TheVariants as job
use Rattle.command_words.specs.declared.job.RunWords.{RunWords}
use Rattle.command_words.specs.declared.job_name.JobName.{JobName}
use Rattle.command_words.specs.declared.job_name.JobName.TheVariants.{Bfs, Sssp, Cc, Kcore, Owners, Proxies, Make, Selfrun}
use Rattle.command_words.specs.Items.{Text, option_names, flag_names, is_among, job_label, given, items_of}
use Rattle.command_words.specs.Values.{number_needed, number_or, way_of, masters_of, owner_of}

-- the job that a job word names
abbrev pub job_name_of : Text → Option JobName
job_name_of word =
    if bytes_eq word (codes "bfs") then Some Bfs
    else if bytes_eq word (codes "sssp") then Some Sssp
    else if bytes_eq word (codes "cc") then Some Cc
    else if bytes_eq word (codes "kcore") then Some Kcore
    else if bytes_eq word (codes "owners") then Some Owners
    else if bytes_eq word (codes "proxies") then Some Proxies
    else if bytes_eq word (codes "make") then Some Make
    else if bytes_eq word (codes "selfrun") then Some Selfrun
    else None

-- the options by which a graph is shared out
abbrev pub share_options : List Text
share_options = codes "hosts" ∷ codes "masters" ∷ codes "owner" ∷ codes "threshold" ∷ []

-- the options that each vertex program has
abbrev pub run_options : List Text
run_options = codes "way" ∷ share_options ++ codes "rounds" ∷ codes "order" ∷ codes "report" ∷ codes "trace" ∷ []

-- the options and flags that a job has
abbrev pub options_of : JobName → List Text
options_of Bfs = codes "root" ∷ run_options
options_of Sssp = codes "root" ∷ run_options
options_of Cc = run_options
options_of Kcore = codes "k" ∷ run_options
options_of Owners = share_options
options_of Proxies = codes "way" ∷ share_options
options_of Make = codes "size" ∷ codes "number" ∷ []
options_of Selfrun = codes "size" ∷ codes "number" ∷ share_options ++ codes "order" ∷ []

-- what is said under each label
abbrev pub Said : Type 0
Said = Text → Option Text

-- of all options and flags none is said but those that the job has
abbrev pub has_only : List Text → Said → Bool
has_only options say = list_all (λ option. is_among option options || is_none (say option)) (option_names ++ flag_names)

-- what is there, and then more of it
infixl 10 ◌>>=◌
abbrev pub ◌>>=◌ : {A B : Type 0} → Option A → (A → Option B) → Option B
o >>= f = option_and_then f o

-- the greatest numbers of 32 and of 64 bits
abbrev pub greatest : ℕ
greatest = 4294967295

abbrev pub greatest_long : ℕ
greatest_long = 18446744073709551615

abbrev pub hosts_said : Said → Option ℕ
hosts_said say = number_or 4 1 64 (say (codes "hosts"))

-- the two rules; the threshold counts for one rule for owners, and is a number whatever the rule
abbrev pub rules_said : Said → Option Rules
rules_said say = do
  masters ← masters_of (say (codes "masters"))
  threshold ← number_or 1000 0 greatest (say (codes "threshold"))
  owner ← owner_of threshold (say (codes "owner"))
  Some (record { masters = masters; owner = owner })

-- a limit of rounds, if one is said
abbrev pub rounds_said : Option Text → Option (Option ℕ)
rounds_said None = Some None
rounds_said text = option_map (λ rounds. Some rounds) (number_needed 1 greatest text)

abbrev pub order_said : Said → Option ℕ
order_said say = number_or 0 0 greatest_long (say (codes "order"))

abbrev pub made_number_said : Said → Option ℕ
made_number_said say = number_or 1 0 greatest_long (say (codes "number"))

abbrev pub size_said : Said → Option ℕ
size_said say = number_needed 1 1000000 (say (codes "size"))

-- how a vertex program is run, by its own way
abbrev pub run_said : Way → Said → Option RunWords
run_said auto say = do
  hosts ← hosts_said say
  rules ← rules_said say
  way ← way_of auto (say (codes "way"))
  rounds ← rounds_said (say (codes "rounds"))
  order ← order_said say
  Some (record {
    hosts = hosts;
    rules = rules;
    way = way;
    rounds = rounds;
    order = order;
    report = is_some (say (codes "report"));
    trace = is_some (say (codes "trace"));
  })

-- the job of this name
abbrev pub job_named : JobName → Said → Option Job
job_named Bfs say = do
  root ← number_needed 0 greatest (say (codes "root"))
  run ← run_said Outward say
  Some (job.Bfs root run)
job_named Sssp say = do
  root ← number_needed 0 greatest (say (codes "root"))
  run ← run_said Outward say
  Some (job.Sssp root run)
job_named Cc say = do
  run ← run_said Both say
  Some (job.Cc run)
job_named Kcore say = do
  k ← number_needed 0 greatest (say (codes "k"))
  run ← run_said Outward say
  Some (job.Kcore k run)
job_named Owners say = do
  hosts ← hosts_said say
  rules ← rules_said say
  Some (job.Owners hosts rules)
job_named Proxies say = do
  hosts ← hosts_said say
  rules ← rules_said say
  way ← way_of Outward (say (codes "way"))
  Some (job.Proxies hosts rules way)
job_named Make say = do
  size ← size_said say
  number ← made_number_said say
  Some (job.Make size number)
job_named Selfrun say = do
  size ← size_said say
  number ← made_number_said say
  hosts ← hosts_said say
  rules ← rules_said say
  order ← order_said say
  Some (job.Selfrun size number hosts rules order)

-- the job of this name, where no option is said that it does not have
abbrev pub job_if_only : Said → JobName → Option Job
job_if_only say name = if has_only (options_of name) say then job_named name say else None

-- the job that is said
abbrev pub job_said : Said → Option Job
job_said say = do
  word ← say job_label
  name ← job_name_of word
  job_if_only say name

-- the job that words mean; where there is none, they are refused
abbrev pub job_of : List Text → Option Job
job_of words = option_and_then (λ items. job_said (given items)) (items_of words)
