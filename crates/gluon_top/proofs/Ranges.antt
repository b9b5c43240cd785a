-- The numbers that words ask for are in their ranges.
use Rattle.std.proofs.Common.{◌≡◌, ℕ, Bool, true, false, cond, refl, Option, Some, None, subst, arith}
use Rattle.std.specs.Prelude.{option_and_then, option_map, IfSome, ◌≤◌, nat_le, codes, is_some, List, [], ◌∷◌, if◌then◌else◌}
use Rattle.std.specs.Str.{bytes_eq}
use Rattle.std.specs.Str.Parse.{digits_value}
use Rattle.std.proofs.lemmas.Bool.{leb-true, and_parts}
use Rattle.graph_model.specs.declared.edge.Way.{Way}
use Rattle.graph_model.specs.declared.edge.Way.TheVariants.{Outward, Both}
use Rattle.cusp_rules.specs.Hosts.{IsHostCount}
use Rattle.edge_owner.specs.declared.rules.Rules.{Rules}
use Rattle.command_words.specs.declared.job.RunWords.{RunWords}
use Rattle.command_words.specs.declared.job.Job.{Job}
use Rattle.command_words.specs.declared.job.Job.TheVariants as job
use Rattle.command_words.specs.Items.{Text, job_label, given, items_of}
use Rattle.command_words.specs.Values.{number_needed, number_or, way_of}
use Rattle.command_words.specs.Jobs.{Said, greatest, run_said, hosts_said, rules_said, rounds_said, size_said, made_number_said, order_said, has_only, options_of, job_name_of, job_named, job_if_only, job_said, job_of}
use Rattle.program_runs.specs.declared.program.Program.{Program}
use Rattle.gluon_top.specs.declared.task.Task.{Task}
use Rattle.gluon_top.specs.declared.task.Task.TheVariants as task
use Rattle.gluon_top.specs.Tasks.{task_of_job, task_of}

-- a run is over 1 to 64 hosts, and may have at least a round
pub record IsRunnable (run : RunWords) : Type 0 where
  pub hosts : IsHostCount run.hosts
  pub rounds : IfSome run.rounds (λ rounds. 1 ≤ rounds)

-- a graph that is made has 1 to 1,000,000 nodes
pub record IsMakeable (size : ℕ) : Type 0 where
  pub some : 1 ≤ size
  pub few : size ≤ 1000000

-- the numbers of a job are in their ranges
abbrev IsInRange : Option Job → Type 0
IsInRange (Some (job.Bfs root run)) = IsRunnable run
IsInRange (Some (job.Sssp root run)) = IsRunnable run
IsInRange (Some (job.Cc run)) = IsRunnable run
IsInRange (Some (job.Kcore k run)) = IsRunnable run
IsInRange (Some (job.Owners hosts rules)) = IsHostCount hosts
IsInRange (Some (job.Proxies hosts rules way)) = IsHostCount hosts
IsInRange (Some (job.Make size number)) = IsMakeable size
IsInRange (Some (job.Selfrun size number hosts rules order)) = IsMakeable size × IsHostCount hosts
IsInRange None = Unit {0}

-- what comes out of a test passed it
passed : {A : Type 0} (test : Bool) (x y : A) → cond test (Some x) None ≡ Some y → (test ≡ true) × (x ≡ y)
passed true x y e = (refl, cc)
passed false x y e = cc

-- a number of hosts that is said, or is not
hosts_counted : (text : Option Text) (n : ℕ) → number_or 4 1 64 text ≡ Some n → IsHostCount n
hosts_counted None n e = let four : 4 ≡ n = cc in record { some_host = omega arith; few_hosts = omega arith }
hosts_counted (Some text) n e =
    let value : ℕ = digits_value 10 text in
    let p = passed _ value n e in
    let low = and_parts _ (nat_le value 64) p.0 in
    let high = and_parts _ (nat_le 1 value) low.0 in
    record {
      some_host = omega (arith, p.1, leb-true 1 value high.1);
      few_hosts = omega (arith, p.1, leb-true value 64 low.1);
    }

-- a size that is said
size_counted : (text : Option Text) (n : ℕ) → number_needed 1 1000000 text ≡ Some n → IsMakeable n
size_counted None n e = cc
size_counted (Some text) n e =
    let value : ℕ = digits_value 10 text in
    let p = passed _ value n e in
    let low = and_parts _ (nat_le value 1000000) p.0 in
    let high = and_parts _ (nat_le 1 value) low.0 in
    record {
      some = omega (arith, p.1, leb-true 1 value high.1);
      few = omega (arith, p.1, leb-true value 1000000 low.1);
    }

-- a number of rounds that is said, or is not
rounds_counted : (text : Option Text) (rounds : Option ℕ) → rounds_said text ≡ Some rounds → IfSome rounds (λ rounds. 1 ≤ rounds)
rounds_counted None rounds e = let none : rounds ≡ None = cc in rw none tt
rounds_counted (Some text) rounds e =
    let value : ℕ = digits_value 10 text in
    said _ value (λ passes. let low = and_parts _ (nat_le value greatest) passes in leb-true 1 value (and_parts _ (nat_le 1 value) low.0).1) rounds e
  where
    said : (test : Bool) (value : ℕ) → (test ≡ true → 1 ≤ value) → (rounds : Option ℕ) → option_map (λ rounds. Some rounds) (cond test (Some value) None) ≡ Some rounds → IfSome rounds (λ rounds. 1 ≤ rounds)
    said true value some rounds e = let is : rounds ≡ Some value = cc in rw is (some refl)
    said false value some rounds e = cc

-- what comes of each, comes of any
each_has : {A : Type 0} (f : A → Option Job) (o : Option A) → ((x : A) → o ≡ Some x → IsInRange (f x)) → IsInRange (option_and_then f o)
each_has f None each = tt
each_has f (Some x) each = each x refl

if_only : (test : Bool) (o : Option Job) → IsInRange o → IsInRange (cond test o None)
if_only true o h = h
if_only false o h = tt

never : false ≡ true → ⊥
never e = cc

-- what is there
abbrev known : {N : Type 0} (o : Option N) → is_some o ≡ true → N
known (Some name) there = name
known None there = absurd (never there)

-- what comes of each way that a run is said, comes of any
run_has : (f : RunWords → Option Job) (auto : Way) (say : Said) → ((run : RunWords) → IsRunnable run → IsInRange (f run)) → IsInRange (option_and_then f (run_said auto say))
run_has f auto say each = by_hosts (hosts_said say) (λ hosts is. hosts_counted (say (codes "hosts")) hosts is)
  where
    by_rounds : (hosts : ℕ) → IsHostCount hosts → (rules : Rules) (way : Way) (rounds : Option (Option ℕ)) → ((count : Option ℕ) → rounds ≡ Some count → IfSome count (λ rounds. 1 ≤ rounds)) → (order : Option ℕ) →
        IsInRange (option_and_then f (option_and_then (λ rounds. option_and_then (λ order. Some (record { hosts = hosts; rules = rules; way = way; rounds = rounds; order = order; report = is_some (say (codes "report")); trace = is_some (say (codes "trace")) })) order) rounds))
    by_rounds hosts counted rules way None each_rounds order = tt
    by_rounds hosts counted rules way (Some count) each_rounds None = tt
    by_rounds hosts counted rules way (Some count) each_rounds (Some order) = each _ (record { hosts = counted; rounds = each_rounds count refl })

    by_rules : (hosts : ℕ) → IsHostCount hosts → (rules : Option Rules) (way : Option Way) →
        IsInRange (option_and_then f (option_and_then (λ rules. option_and_then (λ way. option_and_then (λ rounds. option_and_then (λ order. Some (record { hosts = hosts; rules = rules; way = way; rounds = rounds; order = order; report = is_some (say (codes "report")); trace = is_some (say (codes "trace")) })) (order_said say)) (rounds_said (say (codes "rounds")))) way) rules))
    by_rules hosts counted None way = tt
    by_rules hosts counted (Some rules) None = tt
    by_rules hosts counted (Some rules) (Some way) = by_rounds hosts counted rules way (rounds_said (say (codes "rounds"))) (λ count is. rounds_counted (say (codes "rounds")) count is) (order_said say)

    by_hosts : (hosts : Option ℕ) → ((n : ℕ) → hosts ≡ Some n → IsHostCount n) →
        IsInRange (option_and_then f (option_and_then (λ hosts. option_and_then (λ rules. option_and_then (λ way. option_and_then (λ rounds. option_and_then (λ order. Some (record { hosts = hosts; rules = rules; way = way; rounds = rounds; order = order; report = is_some (say (codes "report")); trace = is_some (say (codes "trace")) })) (order_said say)) (rounds_said (say (codes "rounds")))) (way_of auto (say (codes "way")))) (rules_said say)) hosts))
    by_hosts None each_hosts = tt
    by_hosts (Some hosts) each_hosts = by_rules hosts (each_hosts hosts refl) (rules_said say) (way_of auto (say (codes "way")))

-- so it is with a number that is needed
rooted_has : (f : ℕ → RunWords → Job) (root : Option ℕ) (say : Said) → ((root : ℕ) (run : RunWords) → IsRunnable run → IsInRange (Some (f root run))) → IsInRange (option_and_then (λ root. option_and_then (λ run. Some (f root run)) (run_said Outward say)) root)
rooted_has f root say each = each_has (λ root. option_and_then (λ run. Some (f root run)) (run_said Outward say)) root (λ root is. run_has (λ run. Some (f root run)) Outward say (each root))

-- the name of the first text that is the word
abbrev first_named : {N : Type 0} → Text → List (Text × N) → Option N
first_named word [] = None
first_named word (name ∷ names) = if bytes_eq word name.0 then Some name.1 else first_named word names

-- each name's job is in range
abbrev EachIsInRange : {N : Type 0} → (N → Option Job) → List (Text × N) → Type 0
EachIsInRange job_of_name [] = Unit {0}
EachIsInRange job_of_name (name ∷ names) = IsInRange (job_of_name name.1) × EachIsInRange job_of_name names

-- so is the job of the name that is found
first_has : {N : Type 0} (job_of_name : N → Option Job) (word : Text) (names : List (Text × N)) → EachIsInRange job_of_name names → IsInRange (option_and_then job_of_name (first_named word names))
first_has job_of_name word [] each = tt
first_has {N} job_of_name word (name ∷ names) each = picked (bytes_eq word name.0) each.0 (first_has job_of_name word names each.1)
  where
    picked : (test : Bool) → IsInRange (job_of_name name.1) → IsInRange (option_and_then job_of_name (first_named word names)) → IsInRange (option_and_then job_of_name (if test then Some name.1 else first_named word names))
    picked true first later = first
    picked false first later = later

-- a job of two parts that are said
two : {A B : Type 0} (f : A → B → Job) → ((a : A) (b : B) → IsInRange (Some (f a b))) → (o : Option A) (p : Option B) → IsInRange (option_and_then (λ a. option_and_then (λ b. Some (f a b)) p) o)
two f each o p = each_has (λ a. option_and_then (λ b. Some (f a b)) p) o (λ a is. each_has (λ b. Some (f a b)) p (λ b same. each a b))

-- the job of a name, where no other options are said
named_has : {N : Type 0} (options : N → List Text) (named : N → Said → Option Job) (say : Said) (name : N) → IsInRange (named name say) → IsInRange (if has_only (options name) say then named name say else None)
named_has options named say name has = if_only (has_only (options name) say) (named name say) has

module _ (say : Said) where
  owners_have : IsInRange (option_and_then (λ hosts. option_and_then (λ rules. Some (job.Owners hosts rules)) (rules_said say)) (hosts_said say))
  owners_have =
      each_has (λ hosts. option_and_then (λ rules. Some (job.Owners hosts rules)) (rules_said say)) (hosts_said say) (λ hosts is.
      each_has (λ rules. Some (job.Owners hosts rules)) (rules_said say) (λ rules same. hosts_counted (say (codes "hosts")) hosts is))

  proxies_have : IsInRange (option_and_then (λ hosts. option_and_then (λ rules. option_and_then (λ way. Some (job.Proxies hosts rules way)) (way_of Outward (say (codes "way")))) (rules_said say)) (hosts_said say))
  proxies_have =
      each_has (λ hosts. option_and_then (λ rules. option_and_then (λ way. Some (job.Proxies hosts rules way)) (way_of Outward (say (codes "way")))) (rules_said say)) (hosts_said say) (λ hosts is.
      two (λ rules way. job.Proxies hosts rules way) (λ rules way. hosts_counted (say (codes "hosts")) hosts is) (rules_said say) (way_of Outward (say (codes "way"))))

  selfrun_has : (size number : ℕ) → IsMakeable size → IsInRange (option_and_then (λ hosts. option_and_then (λ rules. option_and_then (λ order. Some (job.Selfrun size number hosts rules order)) (order_said say)) (rules_said say)) (hosts_said say))
  selfrun_has size number makeable =
      each_has (λ hosts. option_and_then (λ rules. option_and_then (λ order. Some (job.Selfrun size number hosts rules order)) (order_said say)) (rules_said say)) (hosts_said say) (λ hosts is.
      two (λ rules order. job.Selfrun size number hosts rules order) (λ rules order. (makeable, hosts_counted (say (codes "hosts")) hosts is)) (rules_said say) (order_said say))

  make_has : IsInRange (option_and_then (λ size. option_and_then (λ number. Some (job.Make size number)) (made_number_said say)) (size_said say))
  make_has =
      each_has (λ size. option_and_then (λ number. Some (job.Make size number)) (made_number_said say)) (size_said say) (λ size is.
      each_has (λ number. Some (job.Make size number)) (made_number_said say) (λ number same. size_counted (say (codes "size")) size is))

-- the job of the name that a word names
word_in_range : (say : Said) (word : Text) → IsInRange (option_and_then (job_if_only say) (job_name_of word))
word_in_range say word =
    first_has (job_if_only say) word
    ((codes "bfs", known (job_name_of (codes "bfs")) refl) ∷ (codes "sssp", known (job_name_of (codes "sssp")) refl)
    ∷ (codes "cc", known (job_name_of (codes "cc")) refl) ∷ (codes "kcore", known (job_name_of (codes "kcore")) refl)
    ∷ (codes "owners", known (job_name_of (codes "owners")) refl) ∷ (codes "proxies", known (job_name_of (codes "proxies")) refl)
    ∷ (codes "make", known (job_name_of (codes "make")) refl) ∷ (codes "selfrun", known (job_name_of (codes "selfrun")) refl) ∷ []) (
      named_has options_of job_named say (known (job_name_of (codes "bfs")) refl) (rooted_has job.Bfs (number_needed 0 greatest (say (codes "root"))) say (λ root run fact. fact)),
      (
        named_has options_of job_named say (known (job_name_of (codes "sssp")) refl) (rooted_has job.Sssp (number_needed 0 greatest (say (codes "root"))) say (λ root run fact. fact)),
        (
          named_has options_of job_named say (known (job_name_of (codes "cc")) refl) (run_has (λ run. Some (job.Cc run)) Both say (λ run fact. fact)),
          (
            named_has options_of job_named say (known (job_name_of (codes "kcore")) refl) (rooted_has job.Kcore (number_needed 0 greatest (say (codes "k"))) say (λ k run fact. fact)),
            (
              named_has options_of job_named say (known (job_name_of (codes "owners")) refl) (owners_have say),
              (
                named_has options_of job_named say (known (job_name_of (codes "proxies")) refl) (proxies_have say),
                (
                  named_has options_of job_named say (known (job_name_of (codes "make")) refl) (make_has say),
                  (
                    named_has options_of job_named say (known (job_name_of (codes "selfrun")) refl)
                        (each_has (λ size. option_and_then (λ number. option_and_then (λ hosts. option_and_then (λ rules. option_and_then (λ order. Some (job.Selfrun size number hosts rules order)) (order_said say)) (rules_said say)) (hosts_said say)) (made_number_said say)) (size_said say) (λ size is.
                        each_has (λ number. option_and_then (λ hosts. option_and_then (λ rules. option_and_then (λ order. Some (job.Selfrun size number hosts rules order)) (order_said say)) (rules_said say)) (hosts_said say)) (made_number_said say) (λ number same. selfrun_has say size number (size_counted (say (codes "size")) size is)))),
                    tt,
                  ),
                ),
              ),
            ),
          ),
        ),
      ),
    )

-- the job of words
words_in_range : (words : List Text) → IsInRange (job_of words)
words_in_range words =
    each_has (λ items. job_said (given items)) (items_of words) (λ items is.
    each_has (λ word. option_and_then (job_if_only (given items)) (job_name_of word)) (given items job_label) (λ word is. word_in_range (given items) word))

-- so are the numbers of a task
abbrev TaskIsInRange : Option Task → Type 0
TaskIsInRange (Some (task.Run program run)) = IsRunnable run
TaskIsInRange (Some (task.Owners hosts rules)) = IsHostCount hosts
TaskIsInRange (Some (task.Proxies hosts rules way)) = IsHostCount hosts
TaskIsInRange (Some (task.Make size number)) = IsMakeable size
TaskIsInRange (Some (task.Selfrun size number hosts rules order)) = IsMakeable size × IsHostCount hosts
TaskIsInRange None = Unit {0}

of_job : (o : Option Job) → IsInRange o → TaskIsInRange (option_map task_of_job o)
of_job None h = tt
of_job (Some (job.Bfs root run)) h = h
of_job (Some (job.Sssp root run)) h = h
of_job (Some (job.Cc run)) h = h
of_job (Some (job.Kcore k run)) h = h
of_job (Some (job.Owners hosts rules)) h = h
of_job (Some (job.Proxies hosts rules way)) h = h
of_job (Some (job.Make size number)) h = h
of_job (Some (job.Selfrun size number hosts rules order)) h = h

-- the task of words
task_in_range : (words : List (List ℕ)) (asked : Option Task) → task_of words ≡ asked → TaskIsInRange asked
task_in_range words asked e = subst TaskIsInRange e (of_job (job_of words) (words_in_range words))

-- a program runs over 1 to 64 hosts, and may have at least a round
pub run_in_range : (words : List (List ℕ)) (program : Program) (run : RunWords) → task_of words ≡ Some (task.Run program run) → IsRunnable run
run_in_range words program run e = task_in_range words (Some (task.Run program run)) e

-- masters and owners are told of 1 to 64 hosts
pub hosts_in_range : (words : List (List ℕ)) (hosts : ℕ) (rules : Rules) → task_of words ≡ Some (task.Owners hosts rules) → IsHostCount hosts
hosts_in_range words hosts rules e = task_in_range words (Some (task.Owners hosts rules)) e

-- and so are proxies and lists
pub proxy_hosts_in_range : (words : List (List ℕ)) (hosts : ℕ) (rules : Rules) (way : Way) → task_of words ≡ Some (task.Proxies hosts rules way) → IsHostCount hosts
proxy_hosts_in_range words hosts rules way e = task_in_range words (Some (task.Proxies hosts rules way)) e

-- a graph can be made
pub size_in_range : (words : List (List ℕ)) (size number : ℕ) → task_of words ≡ Some (task.Make size number) → IsMakeable size
size_in_range words size number e = task_in_range words (Some (task.Make size number)) e

-- and so can one on which programs are tried, over 1 to 64 hosts
pub trial_in_range : (words : List (List ℕ)) (size number hosts : ℕ) (rules : Rules) (order : ℕ) → task_of words ≡ Some (task.Selfrun size number hosts rules order) → IsMakeable size × IsHostCount hosts
trial_in_range words size number hosts rules order e = task_in_range words (Some (task.Selfrun size number hosts rules order)) e
