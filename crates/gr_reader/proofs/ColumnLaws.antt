-- What the columns that came say of the graph.
use Rattle.std.proofs.Common.{◌≡◌, ℕ, zero, suc, ◌+◌, ◌-◌, ◌^◌, ◌<◌, ◌≤◌, lit<, List, [], ◌∷◌, ◌++◌, length, take, replicate, None, refl, sym, ap, ◌∙◌, arith}
use Rattle.std.specs.Prelude.{All}
use Rattle.std.proofs.lemmas.List.{length-append, length-replicate, take_all}
use Rattle.std.proofs.lemmas.List.Elements.{All-nil, All-cons, All-append, All-replicate}
use Rattle.list_laws.specs.Rising.{NeverFalls}
use Rattle.graph_model.specs.declared.edge.Edge.{Edge}
use Rattle.edge_columns.specs.Columns.{last_entry, sources, sources_by, plain_edges, weighed, graph_of, AreColumns}
use Rattle.edge_columns.proofs.EdgeLaws.{weighed-none}
use Rattle.gr_reader.specs.declared.head.Head.{Head}
use Rattle.gr_reader.specs.File.{destination_fault}
use Rattle.gr_reader.specs.Reading.{IsHead}
use Rattle.gr_reader.specs.ColumnLists.{AreStarts, TookDestinationColumn, TookWeightColumn, AreWeights}
use Rattle.gr_reader.proofs.EdgeLaws.{destination_fault-append, destination_fault-clear}

-- ---- the index

-- entries that do not fall from this on end no lower
rises_to_last : (before : ℕ) (entries : List ℕ) → NeverFalls before entries → before ≤ last_entry before entries
rises_to_last before [] rising = omega arith
rises_to_last before (entry ∷ entries) rising = omega (arith, rising.0, rises_to_last entry entries rising.1)

-- entries that do not fall are at most the last
pub entries_fit : (before most : ℕ) (entries : List ℕ) → NeverFalls before entries → last_entry before entries ≤ most → All (λ end. end ≤ most) entries
entries_fit before most [] rising last = All-nil (λ end. end ≤ most)
entries_fit before most (entry ∷ entries) rising last =
    All-cons (λ end. end ≤ most) entry entries (omega (arith, rises_to_last entry entries rising.1)) (entries_fit entry most entries rising.1 last)

-- ---- the destinations

-- a fault of a piece is one of all that came
pub column_fault-more : (nodes : ℕ) (destinations : List ℕ) (count : ℕ) (numbers more : List ℕ) → TookDestinationColumn nodes destinations numbers → count ≡ length destinations
    → destination_fault nodes 0 (numbers ++ more) ≡ destination_fault nodes count more
column_fault-more nodes destinations count numbers more took same =
    let at : 0 + length numbers ≡ count = omega (arith, ap length took.destinations_are) in
    destination_fault-append nodes 0 numbers more took.clear ∙ rw at refl

-- a piece more
pub TookDestinationColumn-more : (nodes : ℕ) (destinations : List ℕ) (count : ℕ) (numbers more : List ℕ) → TookDestinationColumn nodes destinations numbers → count ≡ length destinations
    → destination_fault nodes count more ≡ None → TookDestinationColumn nodes (destinations ++ more) (numbers ++ more)
TookDestinationColumn-more nodes destinations count numbers more took same none = record {
  destinations_are = ap (λ (l : List ℕ). l ++ more) took.destinations_are;
  clear = column_fault-more nodes destinations count numbers more took same ∙ none;
}

-- ---- the weights

-- weights of 1 behind the others change no edge, since each has weight 1
weighed_ones : (ss ds numbers : List ℕ) (count : ℕ) → weighed (plain_edges ss ds) (numbers ++ replicate count 1) ≡ weighed (plain_edges ss ds) numbers
weighed_ones [] ds numbers count = refl
weighed_ones (s ∷ ss) [] numbers count = refl
weighed_ones (s ∷ ss) (d ∷ ds) (number ∷ numbers) count =
    ap (λ (l : List Edge). record { src = s; dst = d; weight = number } ∷ l) (weighed_ones ss ds numbers count)
weighed_ones (s ∷ ss) (d ∷ ds) [] zero = refl
weighed_ones (s ∷ ss) (d ∷ ds) [] (suc count) =
    ap (λ (l : List Edge). record { src = s; dst = d; weight = 1 } ∷ l) (weighed_ones ss ds [] count ∙ weighed-none (plain_edges ss ds))

-- nothing came yet
pub TookWeightColumn-none : TookWeightColumn [] []
TookWeightColumn-none = record { weights_are = refl; light = All-nil (λ weight. weight < 2 ^ 32) }

-- a piece more
pub TookWeightColumn-more : (weights numbers more : List ℕ) → TookWeightColumn weights numbers → All (λ weight. weight < 2 ^ 32) more → TookWeightColumn (weights ++ more) (numbers ++ more)
TookWeightColumn-more weights numbers more took light = record {
  weights_are = ap (λ (l : List ℕ). l ++ more) took.weights_are;
  light = All-append (λ weight. weight < 2 ^ 32) numbers more took.light light;
}

-- weights that were filled up
pub AreWeights-filled : (count had : ℕ) (some weights numbers : List ℕ) → TookWeightColumn some numbers → had ≡ length some → length numbers ≤ count → weights ≡ take count some ++ replicate (count - had) 1
    → AreWeights count weights numbers
AreWeights-filled count had some weights numbers took same enough filled =
    let all : take count numbers ≡ numbers = take_all count numbers enough in
    let left : had ≡ length numbers = omega (arith, ap length took.weights_are) in
    let are : weights ≡ numbers ++ replicate (count - length numbers) 1 = filled ∙ rw (took.weights_are, all, left) refl in
    record {
      weights_are = are;
      enough = enough;
      light = rw are (All-append (λ weight. weight < 2 ^ 32) numbers (replicate (count - length numbers) 1) took.light (All-replicate (λ weight. weight < 2 ^ 32) (count - length numbers) 1 (lit< tt)));
    }

-- ---- the graph

-- the columns of a file are those of a graph
pub columns_of_file : (head : Head) (starts destinations weights entries numbers given : List ℕ) → IsHead head → AreStarts head starts entries → TookDestinationColumn head.nodes destinations numbers
    → length destinations ≡ head.edges → AreWeights head.edges weights given → AreColumns starts destinations weights
columns_of_file head starts destinations weights entries numbers given is index took count weighing =
    let long : length starts ≡ head.nodes + 1 = omega (arith, ap length index.starts_are, index.nodes) in
    let nodes : length starts - 1 ≡ head.nodes = omega arith in
    let given_count : length weights ≡ head.edges = omega (arith, ap length weighing.weights_are, length-append given (replicate (head.edges - length given) 1), length-replicate {A = ℕ} (head.edges - length given) 1, weighing.enough) in
    record {
      some = omega arith;
      nodes_fit = omega (arith, is.nodes);
      edges_fit = omega (arith, is.edges);
      begins = rw index.starts_are refl;
      rising = rw index.starts_are (omega arith, index.rising);
      ends = rw index.starts_are (index.edges ∙ sym count);
      within = rw (nodes, took.destinations_are) (destination_fault-clear head.nodes 0 numbers took.clear);
      weight_for_each = given_count ∙ sym count;
      light = weighing.light;
    }

-- and the graph is the one of the file
pub graph_of_file : (head : Head) (starts destinations weights entries numbers given : List ℕ) → AreStarts head starts entries → TookDestinationColumn head.nodes destinations numbers → AreWeights head.edges weights given
    → graph_of starts destinations weights ≡ record { nodes = head.nodes; edges = weighed (plain_edges (sources 0 0 entries) numbers) given }
graph_of_file head starts destinations weights entries numbers given index took weighing =
    let nodes : length starts - 1 ≡ head.nodes = omega (arith, ap length index.starts_are, index.nodes) in
    let edges : weighed (plain_edges (sources_by starts) destinations) weights ≡ weighed (plain_edges (sources 0 0 entries) numbers) given =
    rw (index.starts_are, took.destinations_are, weighing.weights_are) (weighed_ones (sources 0 0 entries) numbers given (head.edges - length given)) in
    rw (nodes, edges) refl
