-- From what the reader says of the head and of the rest to what the graph means, and from that to what words and
-- bytes mean.
use Rattle.std.proofs.Common.{◌≡◌, ◌⊎◌, inl, inr, ℕ, ◌+◌, List, Option, Some, None, Result, Ok, Err, IfSome, Bool, true, false, nat_lt, refl, arith, drop, sym, ap, length}
use Rattle.std.specs.Prelude.{IsSomeAnd, ◌==◌, ◌||◌, nat_le, if◌then◌else◌, Vec}
use Rattle.std.specs.Global.{Global}
use Rattle.std.proofs.lemmas.Option.{IfSome_then}
use Rattle.graph_model.specs.Graph.{Graph, most_nodes, most_edges}
use Rattle.gr_reader.specs.declared.head.Head.{Head}
use Rattle.gr_reader.specs.declared.fault.GrFault.{GrFault}
use Rattle.gr_reader.specs.declared.fault.GrFault.TheVariants as reading
use Rattle.gr_reader.specs.declared.section.Section.TheVariants as section
use Rattle.gr_reader.specs.Cause as causes
use Rattle.gr_reader.specs.File.{◌>>=◌, demand, long_at, head_at, rest_at, file_at}
use Rattle.gr_reader.specs.Reading.{Means, Refuses}
use Rattle.gr_reader.specs.Reach.{TakesAtMost, reach}
use Rattle.gr_reader.proofs.TakingLaws.{TakesAtMost-then}
use Rattle.edge_owner.specs.declared.rules.Rules.{Rules}
use Rattle.command_words.specs.declared.job.RunWords.{RunWords}
use Rattle.program_runs.specs.declared.program.Program.{Program}
use Rattle.program_runs.specs.Programs.{root_of}
use Rattle.graph_model.specs.declared.edge.Way.{Way}
use Rattle.graph_division.specs.Shares.{Share}
use Rattle.partition_build.specs.Meant.{shared}
use Rattle.partition_build.specs.Meant as meant
use Rattle.partition_text.specs.Text.{partition_text}
use Rattle.graph_maker.specs.MadeGraph.{made_graph}
use Rattle.gr_writer.specs.File.{file_of}
use Rattle.job_text.specs.declared.fault.Fault.{Fault}
use Rattle.job_text.specs.declared.fault.Fault.TheVariants.{Words, Root, Input, Memory}
use Rattle.gluon_top.specs.declared.task.Task.TheVariants as task
use Rattle.job_text.specs.Fault.{Cause, Meant, FailedRead, NoMemory, cause_of, cause_of_input}
use Rattle.gluon_top.specs.Tasks.{task_of, reads_input}
use Rattle.gluon_top.specs.Answers.{text_of}
use Rattle.gluon_top.specs.declared.answers.Answers.{Answers}
use Rattle.gluon_top.specs.declared.answers.Answers.TheVariants.{Tried}
use Rattle.trial_runs.specs.declared.trial.Trial.{Trial}
use Rattle.trial_runs.specs.Trials.{IsTrial}
use Rattle.gluon_top.specs.declared.prepared.Prepared.TheVariants.{Run, Told}
use Rattle.gluon_top.specs.Meaning.{ran, generated, owned, divided, tried, answer_of, of_input, demand_node, graph_of, meaning_of, OfBytes, OfInput}
use Rattle.gluon_top.specs.Outcome.{IfMeant, Stops, Finds, LeftAfter}
use Rattle.job_text.specs.Owners.{owners_text}
use Rattle.gluon_top.specs.Loaded.{FoundShares}

-- what follows from a fault that bytes have, of a fault of the call
input_stops : (cause : causes.Cause) (P Q : Type 0) → (P → Q) → causes.IfBytes cause P → IfMeant (cause_of_input cause) Q
input_stops (causes.BytesOf part) P Q follows p = follows p
input_stops causes.FailedRead P Q follows p = tt
input_stops causes.NoMemory P Q follows p = tt

-- a fault of the reader, told as one of the call
stops : {Y Z : Type 0} (fault : GrFault) (meaning : Result (Y × List ℕ) GrFault) (whole : Result Z Fault) →
    (meaning ≡ Err fault → whole ≡ Err (Input fault)) → Refuses fault meaning → Stops (Input fault) whole
stops fault meaning whole follows refuses = input_stops (causes.cause_of fault) _ _ follows refuses

-- what follows of a fault that is meant
pub IfMeant-map : (cause : Cause) (P Q : Type 0) → (P → Q) → IfMeant cause P → IfMeant cause Q
IfMeant-map Meant P Q follows p = follows p
IfMeant-map FailedRead P Q follows p = tt
IfMeant-map NoMemory P Q follows p = tt

-- the head is refused
pub head_stops : (root : Option ℕ) (left after : Option (List ℕ)) (fault : GrFault) →
    IfSome left (λ bytes. Means {X = Head} {Y = Head} (λ head. head) (Err fault) after (head_at bytes)) →
    IfSome left (λ bytes. Stops (Input fault) (graph_of root bytes))
unfolding graph_of
head_stops root left after fault means = IfSome_then left means (λ bytes refuses.
    stops fault (head_at bytes) (graph_of root bytes) (λ is. rw is refl) refuses)

-- the root is no node
pub root_stops : (root : Option ℕ) (left after : Option (List ℕ)) (head : Head) (fault : Fault) → demand_node root head.nodes ≡ Err fault →
    IfSome left (λ bytes. Means {X = Head} {Y = Head} (λ head. head) (Ok head) after (head_at bytes)) →
    IfSome left (λ bytes. Stops fault (graph_of root bytes))
unfolding graph_of
root_stops root left after head fault refused means = IfSome_then left means (λ bytes found. outside root after head fault refused bytes found)
  where
    outside : (root : Option ℕ) (after : Option (List ℕ)) (head : Head) (fault : Fault) → demand_node root head.nodes ≡ Err fault → (bytes : List ℕ) → Means {X = Head} {Y = Head} (λ head. head) (Ok head) after (head_at bytes) → Stops fault (graph_of root bytes)
    outside root None head fault refused bytes found = absurd found
    outside root (Some rest) head fault refused bytes found =
        let is : graph_of root bytes ≡ Err fault = rw (found, refused) refl in
        always (cause_of fault) is
      where
        always : (cause : Cause) → graph_of root bytes ≡ Err fault → IfMeant cause (graph_of root bytes ≡ Err fault)
        always Meant p = p
        always FailedRead p = tt
        always NoMemory p = tt

-- what follows the head is refused
pub rest_stops : (root : Option ℕ) (left between after : Option (List ℕ)) (head : Head) (fault : GrFault) → demand_node root head.nodes ≡ Ok tt →
    IfSome left (λ bytes. Means {X = Head} {Y = Head} (λ head. head) (Ok head) between (head_at bytes)) →
    IfSome between (λ bytes. Refuses fault (rest_at head bytes)) →
    IfSome left (λ bytes. Stops (Input fault) (graph_of root bytes))
unfolding graph_of
rest_stops root left None after head fault node means refuses = IfSome_then left means (λ bytes found. absurd found)
rest_stops root left (Some rest) after head fault node means refuses = IfSome_then left means (λ bytes found.
    stops fault (rest_at head rest) (graph_of root bytes) (λ is. rw (found, node, is) refl) refuses)

-- the shares of the graph are found
pub finds : (root : Option ℕ) (rules : Rules) (hosts : ℕ) (shares : List Share) (left between after : Option (List ℕ)) (head : Head) → demand_node root head.nodes ≡ Ok tt →
    IfSome left (λ bytes. Means {X = Head} {Y = Head} (λ head. head) (Ok head) between (head_at bytes)) →
    IfSome between (λ bytes. meant.FoundShares rules hosts shares after (rest_at head bytes)) →
    IfSome left (λ bytes. FoundShares rules hosts shares after (graph_of root bytes))
unfolding graph_of
finds root rules hosts shares left None after head node means found = IfSome_then left means (λ bytes is. absurd is)
finds root rules hosts shares left (Some rest) after head node means found = IfSome_then left means (λ bytes is. record {
  graph = found.graph;
  after = found.after;
  means = rw (is, node, found.means) refl;
  leaves = found.leaves;
  is_graph = found.is_graph;
  shared_out = found.shared_out;
})

-- ---- what is left after a fault

-- a head that is accepted, and what follows it
abbrev accepted : Head × List ℕ → Result (Head × List ℕ) GrFault
accepted found = Ok found

same_accepted : (x y : Head × List ℕ) → accepted x ≡ accepted y → x ≡ y
same_accepted x y e = cc

-- where five demands are met, what follows them comes
all_met : (a b c d e : Bool) (f g h i j : GrFault) (x y : Head) (xs ys : List ℕ) →
    (demand a f >>= λ _. (demand b g >>= λ _. (demand c h >>= λ _. (demand d i >>= λ _. (demand e j >>= λ _. accepted (x, xs)))))) ≡ accepted (y, ys) → ys ≡ xs
all_met true true true true true f g h i j x y xs ys same = ap (λ (found : Head × List ℕ). found.1) (sym (same_accepted (x, xs) (y, ys) same))
all_met false b c d e f g h i j x y xs ys same = cc
all_met true false c d e f g h i j x y xs ys same = cc
all_met true true false d e f g h i j x y xs ys same = cc
all_met true true true false e f g h i j x y xs ys same = cc
all_met true true true true false f g h i j x y xs ys same = cc

-- what follows a head is behind 32 bytes
head_rest : (bytes rest : List ℕ) (head : Head) → head_at bytes ≡ Ok (head, rest) → rest ≡ drop 32 bytes
unfolding head_at
head_rest bytes rest head is =
    all_met (nat_le 32 (length bytes)) (long_at 0 bytes == 1) (long_at 8 bytes == 0 || long_at 8 bytes == 4) (nat_le (long_at 16 bytes) most_nodes) (nat_le (long_at 24 bytes) most_edges)
    (reading.Ends section.Head (length bytes)) (reading.Version (long_at 0 bytes)) (reading.EdgeSize (long_at 8 bytes)) (reading.Nodes (long_at 16 bytes)) (reading.Edges (long_at 24 bytes))
    (record { version = long_at 0 bytes; edge_size = long_at 8 bytes; nodes = long_at 16 bytes; edges = long_at 24 bytes }) head (drop 32 bytes) rest is

-- a fault of the head
pub head_left : (left after : Option (List ℕ)) (fault : GrFault) →
    IfSome left (λ bytes. Means {X = Head} {Y = Head} (λ head. head) (Err fault) after (head_at bytes)) → TakesAtMost 32 left after →
    IfMeant (cause_of (Input fault)) (IfSome left (λ bytes. LeftAfter bytes (Input fault) after))
head_left None after fault means taken = input_stops (causes.cause_of fault) _ _ (λ u. u) (IfBytes-all (causes.cause_of fault))
  where
    IfBytes-all : (cause : causes.Cause) → causes.IfBytes cause (Unit {0})
    IfBytes-all (causes.BytesOf part) = tt
    IfBytes-all causes.FailedRead = tt
    IfBytes-all causes.NoMemory = tt
head_left (Some bytes) after fault means taken = input_stops (causes.cause_of fault) _ _ (λ is. rw is taken) means

-- what is demanded of a root, by whether it is a node
abbrev node_or_fault : (below : Bool) (root nodes : ℕ) → Result (Unit {0}) Fault
node_or_fault below root nodes = if below then Ok tt else Err (Root root nodes)

refused_root : (below : Bool) (root nodes : ℕ) (fault : Fault) → node_or_fault below root nodes ≡ Err fault → fault ≡ Root root nodes
refused_root true root nodes fault e = cc
refused_root false root nodes fault e = cc

-- the root is no node
pub root_left : (root : Option ℕ) (left after : Option (List ℕ)) (head : Head) (fault : Fault) → demand_node root head.nodes ≡ Err fault →
    IfSome left (λ bytes. Means {X = Head} {Y = Head} (λ head. head) (Ok head) after (head_at bytes)) →
    IfMeant (cause_of fault) (IfSome left (λ bytes. LeftAfter bytes fault after))
root_left None left after head fault refused means = cc
root_left (Some root) left after head fault refused means =
    let is : fault ≡ Root root head.nodes = refused_root (nat_lt root head.nodes) root head.nodes fault refused in
    rw is (behind left after means)
  where
    behind : (left after : Option (List ℕ)) → IfSome left (λ bytes. Means {X = Head} {Y = Head} (λ head. head) (Ok head) after (head_at bytes)) → IfSome left (λ bytes. LeftAfter bytes (Root root head.nodes) after)
    behind None after means = tt
    behind (Some bytes) None means = absurd means
    behind (Some bytes) (Some rest) means = ap Some (head_rest bytes rest head means)

-- a fault of what follows the head
pub rest_left : (left between after : Option (List ℕ)) (head : Head) (fault : GrFault) →
    IfSome left (λ bytes. Means {X = Head} {Y = Head} (λ head. head) (Ok head) between (head_at bytes)) → TakesAtMost 32 left between →
    TakesAtMost (reach {X = Graph} head (Err fault)) between after →
    IfMeant (cause_of (Input fault)) (IfSome left (λ bytes. LeftAfter bytes (Input fault) after))
rest_left None between after head fault means first second = IfMeant-all (cause_of (Input fault))
  where
    IfMeant-all : (cause : Cause) → IfMeant cause (Unit {0})
    IfMeant-all Meant = tt
    IfMeant-all FailedRead = tt
    IfMeant-all NoMemory = tt
rest_left (Some bytes) None after head fault means first second = absurd means
rest_left (Some bytes) (Some rest) after head fault means first second =
    let all : TakesAtMost (32 + reach {X = Graph} head (Err fault)) (Some bytes) after = TakesAtMost-then 32 (reach {X = Graph} head (Err fault)) _ (Some bytes) (Some rest) after (omega arith) first second in
    let known : LeftAfter bytes (Input fault) after = rw means all in
    always (cause_of (Input fault)) known
  where
    always : (cause : Cause) → LeftAfter bytes (Input fault) after → IfMeant cause (LeftAfter bytes (Input fault) after)
    always Meant p = p
    always FailedRead p = tt
    always NoMemory p = tt

-- ---- what words and bytes mean

-- the words are refused
pub words_stops : (words : List (List ℕ)) (left after : Option (List ℕ)) → task_of words ≡ None →
    OfInput words left (λ bytes. Finds (Err Words) after (meaning_of words bytes))
unfolding meaning_of
words_stops words left after none = rw none refl

-- want of memory says nothing of them
pub memory_stops : (words : List (List ℕ)) (left after : Option (List ℕ)) →
    OfInput words left (λ bytes. Finds (Err Memory) after (meaning_of words bytes))
memory_stops words left after = always (reads_input (task_of words)) left
  where
    always : (needed : Bool) (left : Option (List ℕ)) → OfBytes needed left (λ bytes. Finds (Err Memory) after (meaning_of words bytes))
    always true None = tt
    always true (Some bytes) = tt
    always false left = tt

-- hosts hold the graph on which a program is to run
pub run_ready : (words : List (List ℕ)) (program : Program) (run : RunWords) (left after : Option (List ℕ)) (graphs : Vec Share Global) → task_of words ≡ Some (task.Run program run) →
    IfSome left (λ bytes. FoundShares run.rules run.hosts graphs.items after (graph_of (root_of program) bytes)) →
    OfInput words left (λ bytes. Finds (Ok (Run program run graphs)) after (meaning_of words bytes))
unfolding meaning_of answer_of
run_ready words program run left after graphs asked found =
    rw asked (IfSome_then left found (λ bytes f. (
      ran program run f.graph f.after,
      rw f.means refl,
      f.leaves,
      record { same_program = refl; same_words = refl; is_graph = f.is_graph; shared_out = f.shared_out },
    )))

-- the graph of a run has a fault
pub run_stops : (words : List (List ℕ)) (program : Program) (run : RunWords) (left after : Option (List ℕ)) (fault : Fault) → task_of words ≡ Some (task.Run program run) →
    IfSome left (λ bytes. Stops fault (graph_of (root_of program) bytes)) →
    OfInput words left (λ bytes. Finds (Err fault) after (meaning_of words bytes))
unfolding meaning_of answer_of
run_stops words program run left after fault asked stopped =
    rw asked (IfSome_then left stopped (λ bytes stop. IfMeant-map (cause_of fault) _ _ (λ is. rw is refl) stop))

-- the graph is made
pub graph_made : (words : List (List ℕ)) (size number : ℕ) (left after : Option (List ℕ)) (x : Answers) → task_of words ≡ Some (task.Make size number) →
    text_of x ≡ file_of 4 (made_graph size number) →
    OfInput words left (λ bytes. Finds (Ok (Told x)) after (meaning_of words bytes))
unfolding meaning_of answer_of
graph_made words size number left after x asked text =
    rw asked (generated (made_graph size number), refl, tt, text)

-- masters and owners are found
pub owners_found : (words : List (List ℕ)) (rules : Rules) (hosts : ℕ) (left after : Option (List ℕ)) (x : Answers) (graph : Graph) → task_of words ≡ Some (task.Owners hosts rules) →
    text_of x ≡ owners_text rules hosts graph →
    IfSome left (λ bytes. IsSomeAnd after (λ rest. of_input (file_at bytes) ≡ Ok (graph, rest))) →
    OfInput words left (λ bytes. Finds (Ok (Told x)) after (meaning_of words bytes))
unfolding meaning_of answer_of
owners_found words rules hosts left None x graph asked text found = rw asked (IfSome_then left found (λ bytes f. absurd f))
owners_found words rules hosts left (Some rest) x graph asked text found =
    rw asked (IfSome_then left found (λ bytes is. (owned rules hosts graph rest, rw is refl, refl, text)))

-- the file has a fault
pub owners_stop : (words : List (List ℕ)) (rules : Rules) (hosts : ℕ) (left after : Option (List ℕ)) (fault : Fault) → task_of words ≡ Some (task.Owners hosts rules) →
    IfSome left (λ bytes. Stops fault (of_input (file_at bytes))) →
    OfInput words left (λ bytes. Finds (Err fault) after (meaning_of words bytes))
unfolding meaning_of answer_of
owners_stop words rules hosts left after fault asked stopped =
    rw asked (IfSome_then left stopped (λ bytes stop. IfMeant-map (cause_of fault) _ _ (λ is. rw is refl) stop))

-- proxies and lists are found
pub proxies_found : (words : List (List ℕ)) (rules : Rules) (hosts : ℕ) (way : Way) (left after : Option (List ℕ)) (x : Answers) (shares : List Share) → task_of words ≡ Some (task.Proxies hosts rules way) →
    text_of x ≡ partition_text way shares →
    IfSome left (λ bytes. IsSomeAnd after (λ rest. of_input (shared rules hosts (file_at bytes)) ≡ Ok (shares, rest))) →
    OfInput words left (λ bytes. Finds (Ok (Told x)) after (meaning_of words bytes))
unfolding meaning_of answer_of
proxies_found words rules hosts way left None x shares asked text found = rw asked (IfSome_then left found (λ bytes f. absurd f))
proxies_found words rules hosts way left (Some rest) x shares asked text found =
    rw asked (IfSome_then left found (λ bytes is. (divided way shares rest, rw is refl, refl, text)))

-- the file has a fault
pub proxies_stop : (words : List (List ℕ)) (rules : Rules) (hosts : ℕ) (way : Way) (left after : Option (List ℕ)) (fault : Fault) → task_of words ≡ Some (task.Proxies hosts rules way) →
    IfSome left (λ bytes. Stops fault (of_input (shared rules hosts (file_at bytes)))) →
    OfInput words left (λ bytes. Finds (Err fault) after (meaning_of words bytes))
unfolding meaning_of answer_of
proxies_stop words rules hosts way left after fault asked stopped =
    rw asked (IfSome_then left stopped (λ bytes stop. IfMeant-map (cause_of fault) _ _ (λ is. rw is refl) stop))

-- the four programs were tried
pub trial_found : (words : List (List ℕ)) (size number hosts : ℕ) (rules : Rules) (order : ℕ) (left after : Option (List ℕ)) (trial : Trial) → task_of words ≡ Some (task.Selfrun size number hosts rules order) →
    IsTrial (made_graph size number) trial →
    OfInput words left (λ bytes. Finds (Ok (Told (Tried trial))) after (meaning_of words bytes))
unfolding meaning_of answer_of
trial_found words size number hosts rules order left after trial asked is =
    rw asked (tried rules hosts (made_graph size number), refl, tt, (trial, is, refl))

-- refused words, or want of memory
pub refused_stops : (words : List (List ℕ)) (left after : Option (List ℕ)) (fault : Fault) → (fault ≡ Words) ⊎ (fault ≡ Memory) → (fault ≡ Words → task_of words ≡ None) →
    OfInput words left (λ bytes. Finds (Err fault) after (meaning_of words bytes))
refused_stops words left after fault (inl is) none = rw is (words_stops words left after (none is))
refused_stops words left after fault (inr is) none = rw is (memory_stops words left after)
