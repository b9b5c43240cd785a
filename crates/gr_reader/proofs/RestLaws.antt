-- How the meanings of sections join to that of a file.
use Rattle.std.proofs.Common.{◌≡◌, ℕ, ◌+◌, ◌≤◌, List, [], Option, None, Some, IfSome, IsSomeAnd, Result, Ok, Err, refl, arith}
use Rattle.io_edge.specs.Bytes.{Gives}
use Rattle.graph_model.specs.declared.edge.Edge.{Edge}
use Rattle.graph_model.specs.Graph.{Graph}
use Rattle.gr_reader.specs.declared.head.Head.{Head}
use Rattle.gr_reader.specs.declared.fault.GrFault.{GrFault}
use Rattle.gr_reader.specs.Cause.{cause_of}
use Rattle.edge_columns.specs.Columns.{sources, plain_edges, weighed}
use Rattle.gr_reader.specs.File.{head_at, index_at, destinations_at, padding_at, weights_at, rest_at, file_at}
use Rattle.gr_reader.specs.Reading.{Refuses, Means}
use Rattle.gr_reader.specs.Reach.{TakesAtMost, reach, head_reach, file_reach}
use Rattle.gr_reader.specs.Sections.{Came, Broke}
use Rattle.gr_reader.proofs.CauseLaws.{IfBytes-map}
use Rattle.gr_reader.proofs.TakingLaws.{TakesAtMost-then, TakesAtMost-more}

-- what holds of the bytes where they are told
pub IfSome-told : (old : Option (List ℕ)) (P : List ℕ → Type 0) → ((bytes : List ℕ) → old ≡ Some bytes → P bytes) → IfSome old P
IfSome-told None P holds = tt
IfSome-told (Some bytes) P holds = holds bytes refl

-- ---- what follows the head

-- the index broke
pub rest_broke-index : (head : Head) (a : Option (List ℕ)) (fault : GrFault) → Broke a (index_at head) fault → Broke a (rest_at head) fault
unfolding rest_at
rest_broke-index head a fault broke bytes told = IfBytes-map (cause_of fault) _ _ (λ e. rw e refl) (broke bytes told)

-- the destinations broke
pub rest_broke-destinations : (head : Head) (a b : Option (List ℕ)) (i : List ℕ → Type 0) (fault : GrFault) → Came a b (index_at head) i → Broke b (destinations_at head) fault → Broke a (rest_at head) fault
unfolding rest_at
rest_broke-destinations head a b i fault index broke bytes told =
    let one = index.means bytes told in
    IfBytes-map (cause_of fault) _ _ (λ (is : destinations_at head one.0 ≡ Err fault). rw (one.2, is) refl) (broke one.0 one.1)

-- the padding broke
pub rest_broke-padding : (head : Head) (a b c : Option (List ℕ)) (i d : List ℕ → Type 0) (fault : GrFault) → Came a b (index_at head) i → Came b c (destinations_at head) d → Broke c (padding_at head) fault
    → Broke a (rest_at head) fault
unfolding rest_at
rest_broke-padding head a b c i d fault index destinations broke bytes told =
    let one = index.means bytes told in
    let two = destinations.means one.0 one.1 in
    IfBytes-map (cause_of fault) _ _ (λ (is : padding_at head two.0 ≡ Err fault). rw (one.2, two.2, is) refl) (broke two.0 two.1)

-- the weights broke
pub rest_broke-weights : (head : Head) (a b c e : Option (List ℕ)) (i d p : List ℕ → Type 0) (fault : GrFault) → Came a b (index_at head) i → Came b c (destinations_at head) d → Came c e (padding_at head) p
    → Broke e (weights_at head) fault → Broke a (rest_at head) fault
unfolding rest_at
rest_broke-weights head a b c e i d p fault index destinations padding broke bytes told =
    let one = index.means bytes told in
    let two = destinations.means one.0 one.1 in
    let three = padding.means two.0 two.1 in
    IfBytes-map (cause_of fault) _ _ (λ (is : weights_at head three.0 ≡ Err fault). rw (one.2, two.2, three.2, is) refl) (broke three.0 three.1)

-- all came
pub rest_came : (head : Head) (a b c e f : Option (List ℕ)) (i d p w : List ℕ → Type 0) (edges : List Edge) (index : Came a b (index_at head) i) (destinations : Came b c (destinations_at head) d)
    (padding : Came c e (padding_at head) p) (weights : Came e f (weights_at head) w) → edges ≡ weighed (plain_edges (sources 0 0 index.numbers) destinations.numbers) weights.numbers
    → IfSome a (λ bytes. IsSomeAnd f (λ rest. rest_at head bytes ≡ Ok (record { nodes = head.nodes; edges = edges }, rest)))
unfolding rest_at
rest_came head a b c e f i d p w edges index destinations padding weights are =
    IfSome-told a _ (λ bytes told.
    let one = index.means bytes told in
    let two = destinations.means one.0 one.1 in
    let three = padding.means two.0 two.1 in
    let four = weights.means three.0 three.1 in
    rw (four.1, one.2, two.2, three.2, four.2, are) refl)

-- ---- a whole file

-- the head was refused
pub file_refused : (old : Option (List ℕ)) (fault : GrFault) → IfSome old (λ bytes. Refuses fault (head_at bytes)) → IfSome old (λ bytes. Refuses fault (file_at bytes))
unfolding file_at
file_refused None fault refused = tt
file_refused (Some bytes) fault refused = IfBytes-map (cause_of fault) _ _ (λ e. rw e refl) refused

-- what follows an accepted head
pub file_means : {X : Type 0} (view : X → Graph) (old mid new : Option (List ℕ)) (head : Head) (result : Result X GrFault) → IfSome old (λ bytes. IsSomeAnd mid (λ rest. head_at bytes ≡ Ok (head, rest)))
    → IfSome mid (λ rest. Means view result new (rest_at head rest)) → IfSome old (λ bytes. Means view result new (file_at bytes))
unfolding file_at
file_means view None mid new head result first second = tt
file_means view (Some bytes) None new head result first second = absurd first
file_means view (Some bytes) (Some rest) new head result first second = rw first second

-- bytes that are not told stay so
untold : (new : Option (List ℕ)) (got : List ℕ) → Gives None new got → Gives None new []
untold None got gives = refl
untold (Some rest) got gives = absurd (cc)

TakesAtMost-untold : (m n : ℕ) (new : Option (List ℕ)) → TakesAtMost m None new → TakesAtMost n None new
TakesAtMost-untold m n new takes = record { got = []; gives = untold new takes.got takes.gives; within = omega arith }

-- each file may be read to the end of its head
head_reach-low : {X : Type 0} (found : Result (Head × List ℕ) GrFault) (result : Result X GrFault) → 32 ≤ head_reach found result
head_reach-low (Ok found) result = omega arith
head_reach-low (Err fault) result = omega arith

-- no more than a head was taken
pub file_taken-head : {X : Type 0} (n : ℕ) (old new : Option (List ℕ)) (result : Result X GrFault) → n ≤ 32 → TakesAtMost n old new → TakesAtMost (file_reach old result) old new
file_taken-head n None new result within takes = TakesAtMost-untold n 0 new takes
file_taken-head n (Some bytes) new result within takes = TakesAtMost-more n _ (Some bytes) new (omega (arith, head_reach-low (head_at bytes) result)) takes

-- an accepted head was taken, and more
pub file_taken-rest : {X : Type 0} (old mid new : Option (List ℕ)) (head : Head) (result : Result X GrFault) → IfSome old (λ bytes. IsSomeAnd mid (λ rest. head_at bytes ≡ Ok (head, rest)))
    → TakesAtMost 32 old mid → TakesAtMost (reach head result) mid new → TakesAtMost (file_reach old result) old new
file_taken-rest None mid new head result first one two = TakesAtMost-untold (32 + reach head result) 0 new (TakesAtMost-then 32 (reach head result) _ None mid new (omega arith) one two)
file_taken-rest (Some bytes) None new head result first one two = absurd first
file_taken-rest (Some bytes) (Some rest) new head result first one two = rw first (TakesAtMost-then 32 (reach head result) _ (Some bytes) (Some rest) new (omega arith) one two)
