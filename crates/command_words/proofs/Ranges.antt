-- The size of a graph that words ask to make.
use Rattle.std.proofs.Common.{◌≡◌, ℕ, ◌≤◌, Bool, true, false, cond, refl, Option, Some, None, arith}
use Rattle.std.specs.Prelude.{option_and_then, ◌&&◌, nat_le, codes, List}
use Rattle.std.specs.Str.Parse.{digits_value}
use Rattle.std.proofs.lemmas.Bool.{leb-true}
use Rattle.graph_model.specs.declared.edge.Way.TheVariants.{Outward, Both}
use Rattle.command_words.specs.declared.job.Job.{Job}
use Rattle.command_words.specs.declared.job.Job.TheVariants as job
use Rattle.command_words.specs.declared.job_name.JobName.{JobName}
use Rattle.command_words.specs.declared.job_name.JobName.TheVariants.{Bfs, Sssp, Cc, Kcore, Owners, Proxies, Make, Selfrun}
use Rattle.command_words.specs.Items.{Text, job_label, given, items_of}
use Rattle.command_words.specs.Values.{number_needed, way_of}
use Rattle.command_words.specs.Jobs.{Said, greatest, run_said, hosts_said, rules_said, size_said, made_number_said, order_said, has_only, options_of, job_name_of, job_named, job_if_only, job_said, job_of}

-- what comes out of a test passed it
passed : {A : Type 0} (test : Bool) (x y : A) → cond test (Some x) None ≡ Some y → (test ≡ true) × (x ≡ y)
passed true x y e = (refl, cc)
passed false x y e = cc

both : (a b : Bool) → (a && b) ≡ true → (a ≡ true) × (b ≡ true)
both true b e = (refl, e)
both false b e = cc

-- a number is in its range
number_in_range : (least most n : ℕ) (text : Option Text) → number_needed least most text ≡ Some n → (least ≤ n) × (n ≤ most)
number_in_range least most n None e = cc
number_in_range least most n (Some text) e =
    let value : ℕ = digits_value 10 text in
    let p = passed _ value n e in
    let low = both _ (nat_le value most) p.0 in
    let high = both _ (nat_le least value) low.0 in
    let a : least ≤ value = leb-true least value high.1 in
    let b : value ≤ most = leb-true value most low.1 in
    (omega (arith, p.1), omega (arith, p.1))

-- where a graph is to be made, its size is in its range
abbrev pub IsInRange : Option Job → Type 0
IsInRange (Some (job.Make size number)) = (1 ≤ size) × (size ≤ 1000000)
IsInRange _ = Unit {0}

-- what each of these is, what comes of any of them is
then : {A : Type 0} (f : A → Option Job) → ((x : A) → IsInRange (f x)) → (o : Option A) → IsInRange (option_and_then f o)
then f each None = tt
then f each (Some x) = each x

if_only : (test : Bool) (o : Option Job) → IsInRange o → IsInRange (cond test o None)
if_only true o h = h
if_only false o h = tt

-- the job of each name
two : {A B : Type 0} (f : A → B → Job) → ((a : A) (b : B) → IsInRange (Some (f a b))) → (o : Option A) (p : Option B) → IsInRange (option_and_then (λ a. option_and_then (λ b. Some (f a b)) p) o)
two f each o p = then _ (λ a. then _ (λ b. each a b) p) o

made : (size number : Option ℕ) → ((n : ℕ) → size ≡ Some n → (1 ≤ n) × (n ≤ 1000000)) → IsInRange (option_and_then (λ n. option_and_then (λ m. Some (job.Make n m)) number) size)
made None number h = tt
made (Some n) None h = tt
made (Some n) (Some m) h = h n refl

in_range : (name : JobName) (say : Said) → IsInRange (job_named name say)
in_range Bfs say = two job.Bfs (λ a b. tt) (number_needed 0 greatest (say (codes "root"))) (run_said Outward say)
in_range Sssp say = two job.Sssp (λ a b. tt) (number_needed 0 greatest (say (codes "root"))) (run_said Outward say)
in_range Cc say = then (λ run. Some (job.Cc run)) (λ run. tt) (run_said Both say)
in_range Kcore say = two job.Kcore (λ a b. tt) (number_needed 0 greatest (say (codes "k"))) (run_said Outward say)
in_range Owners say = two job.Owners (λ a b. tt) (hosts_said say) (rules_said say)
in_range Proxies say =
    then (λ hosts. option_and_then (λ rules. option_and_then (λ way. Some (job.Proxies hosts rules way)) (way_of Outward (say (codes "way")))) (rules_said say))
    (λ hosts. two (λ rules way. job.Proxies hosts rules way) (λ a b. tt) (rules_said say) (way_of Outward (say (codes "way")))) (hosts_said say)
in_range Make say = made (size_said say) (made_number_said say) (λ n e. number_in_range 1 1000000 n (say (codes "size")) e)
in_range Selfrun say =
    then _ (λ size. then _ (λ number. then _ (λ hosts. two (λ rules order. job.Selfrun size number hosts rules order) (λ a b. tt) (rules_said say) (order_said say)) (hosts_said say)) (made_number_said say)) (size_said say)

-- the size of a made graph is in its range
pub made_size : (words : List Text) → IsInRange (job_of words)
made_size words =
    then (λ items. job_said (given items))
    (λ items. then (λ word. option_and_then (job_if_only (given items)) (job_name_of word))
    (λ word. then (job_if_only (given items)) (λ name. if_only (has_only (options_of name) (given items)) (job_named name (given items)) (in_range name (given items))) (job_name_of word))
    (given items job_label))
    (items_of words)
