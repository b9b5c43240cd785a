-- The file that is written means the graph again.
use Rattle.std.proofs.Common.{◌≡◌, ℕ, zero, suc, ◌+◌, ◌*◌, ◌%◌, ◌^◌, ◌<◌, Bool, true, false, List, [], ◌∷◌, ◌++◌, length, map, drop, get_or, Option, None, Result, Ok, refl, sym, ap, ◌∙◌, arith, append_assoc, ⊎_elim, lit<, eq-eqb}
use Rattle.std.specs.Prelude.{All, nat_le, ◌==◌, ◌||◌, if◌then◌else◌}
use Rattle.std.specs.List.{range_with_len}
use Rattle.std.proofs.lemmas.Bool.{le-leb}
use Rattle.std.proofs.lemmas.List.{length-map}
use Rattle.std.proofs.lemmas.List.Elements.{All-head, All-tail, All-map}
use Rattle.std.proofs.lemmas.List.FromFn.{length-map-range_with_len}
use Rattle.list_laws.specs.LittleEndian.{le_bytes, le_text, whole_numbers}
use Rattle.list_laws.proofs.LittleEndian.{le_number-le_bytes}
use Rattle.list_laws.proofs.WholeNumbers.{length-le_text, whole_numbers-le_text}
use Rattle.list_laws.proofs.Ranges.{map-range_same}
use Rattle.graph_model.specs.declared.edge.Edge.{Edge}
use Rattle.graph_model.specs.Graph.{Graph, IsGraph, most_nodes, most_edges}
use Rattle.gr_reader.specs.declared.head.Head.{Head}
use Rattle.gr_reader.specs.declared.section.Section.{Section}
use Rattle.gr_reader.specs.declared.section.Section.TheVariants as section
use Rattle.gr_reader.specs.declared.fault.GrFault.{GrFault}
use Rattle.edge_columns.specs.Columns.{last_entry, sources, plain_edges, weighed}
use Rattle.gr_reader.specs.File.{long_at, head_at, section_at, no_fault, index_at, destination_fault, destinations_at, padding, padding_at, weights_at, rest_at, file_at, entry_fault}
use Rattle.gr_reader.proofs.SectionLaws.{section_at-whole}
use Rattle.edge_columns.proofs.EdgeLaws.{source, weighed-none}
use Rattle.gr_writer.specs.File.{head_of, end_of, index_of, destinations_of, padding_of, weights_of, file_of}
use Rattle.gr_writer.specs.ReadAgain.{IsReadAgain}
use Rattle.gr_writer.proofs.Ends.{end_of-next, end_of-within, end_of-cons_yes}
use Rattle.gr_writer.proofs.Sources.{NeverFalls-from_sorted, sources-ends, entry_fault-none, last_entry-map}

-- the head that is written
abbrev written : ℕ → Graph → Head
written size graph = record { version = 1; edge_size = size; nodes = graph.nodes; edges = length graph.edges }

-- a head whose tests pass
head_at-ok : (bytes rest : List ℕ) (size nodes edges : ℕ) → nat_le 32 (length bytes) ≡ true
    → long_at 0 bytes ≡ 1 → long_at 8 bytes ≡ size → long_at 16 bytes ≡ nodes → long_at 24 bytes ≡ edges → drop 32 bytes ≡ rest
    → (size == 0 || size == 4) ≡ true → nat_le nodes most_nodes ≡ true → nat_le edges most_edges ≡ true
    → head_at bytes ≡ Ok (record { version = 1; edge_size = size; nodes = nodes; edges = edges }, rest)
unfolding head_at
head_at-ok bytes rest size nodes edges whole version is_size is_nodes is_edges left size_known nodes_fit edges_fit =
    rw (whole, version, is_size, is_nodes, is_edges, left, size_known, nodes_fit, edges_fit)

-- the head
head_again : (size : ℕ) (graph : Graph) (rest : List ℕ) → (size == 0 || size == 4) ≡ true → size < 2 ^ 64 → IsGraph graph
    → head_at (head_of size graph ++ rest) ≡ Ok (written size graph, rest)
unfolding le_bytes
head_again size graph rest known small is_graph =
    let edges = length graph.edges in
    head_at-ok (head_of size graph ++ rest) rest size graph.nodes edges
    (le-leb 32 (length (head_of size graph ++ rest)) (omega arith))
    (le_number-le_bytes 8 1 (lit< tt))
    (le_number-le_bytes 8 size small)
    (le_number-le_bytes 8 graph.nodes (omega (arith, is_graph.nodes_fit)))
    (le_number-le_bytes 8 edges (omega (arith, is_graph.edges_fit)))
    refl known (le-leb graph.nodes most_nodes is_graph.nodes_fit) (le-leb edges most_edges is_graph.edges_fit)

-- numbers that were written are the numbers of the section
numbers_again : (part : Section) (size want : ℕ) (fault : List ℕ → Option GrFault) (numbers rest : List ℕ) → 0 < size → All (λ x. x < 256 ^ size) numbers → fault numbers ≡ None → want ≡ length numbers * size
    → section_at part size want fault (le_text size numbers ++ rest) ≡ Ok (numbers, rest)
numbers_again part size want fault numbers rest some fit clear long =
    let same : whole_numbers size (le_text size numbers) ≡ numbers = whole_numbers-le_text size numbers some fit in
    let read : List ℕ → Result (List ℕ × List ℕ) GrFault = λ found. Ok (found, rest) in
    section_at-whole part size want fault (le_text size numbers) rest (length-le_text size numbers ∙ sym long) (ap fault same ∙ clear) ∙ ap read same

-- where every edge starts at a node or before it, its range ends last
end_of-all : (v : ℕ) (edges : List Edge) → All (λ (edge : Edge). edge.src < v + 1) edges → end_of edges v ≡ length edges
end_of-all v [] all = refl
end_of-all v (edge ∷ edges) all =
    let first = All-head (λ (e : Edge). e.src < v + 1) edge edges all in
    omega (arith, end_of-all v edges (All-tail (λ (e : Edge). e.src < v + 1) edge edges all), end_of-cons_yes edge edges v (omega (arith, first)))

-- the last end
last_end : (nodes : ℕ) (edges : List Edge) → All (λ (edge : Edge). edge.src < nodes) edges
    → last_entry 0 (map (end_of edges) (range_with_len 0 nodes)) ≡ length edges
last_end zero [] within = refl
last_end zero (edge ∷ edges) within = absurd (omega (arith, All-head (λ (e : Edge). e.src < 0) edge edges within))
last_end (suc k) edges within = last_entry-map (end_of edges) k 0 0 ∙ end_of-all (0 + k) edges (λ i d h. omega (arith, within i d h))

-- an index whose tests pass
index_at-ok : (head : Head) (bytes entries rest : List ℕ) → section_at section.Index 8 (8 * head.nodes) (entry_fault 0 0) bytes ≡ Ok (entries, rest) → (last_entry 0 entries == head.edges) ≡ true
    → index_at head bytes ≡ Ok (entries, rest)
unfolding index_at
index_at-ok head bytes entries rest read ends = rw (read, ends)

-- the index
index_again : (size : ℕ) (graph : Graph) (rest : List ℕ) → IsGraph graph → index_at (written size graph) (index_of graph.nodes graph.edges ++ rest) ≡ Ok (map (end_of graph.edges) (range_with_len 0 graph.nodes), rest)
index_again size graph rest is_graph =
    let f = end_of graph.edges in
    let entries = map f (range_with_len 0 graph.nodes) in
    let small : All (λ n. n < 256 ^ 8) entries = All-map (λ n. n < 256 ^ 8) f (range_with_len 0 graph.nodes)
    (λ i d h. omega (arith, is_graph.edges_fit, end_of-within graph.edges (get_or (range_with_len 0 graph.nodes) i d))) in
    index_at-ok (written size graph) (index_of graph.nodes graph.edges ++ rest) entries rest
    (numbers_again section.Index 8 (8 * graph.nodes) (entry_fault 0 0) entries rest (lit< tt) small
    (entry_fault-none f (end_of-next graph.edges) graph.nodes 0 0 0 (omega arith)) (omega (arith, length-map-range_with_len f 0 graph.nodes)))
    (eq-eqb (last_entry 0 entries) (length graph.edges) (last_end graph.nodes graph.edges (λ i d h. (is_graph.within i d h).0)))

-- no destination is outside
destination_fault-none : (nodes place : ℕ) (xs : List ℕ) → All (λ x. x < nodes) xs → destination_fault nodes place xs ≡ None
destination_fault-none nodes place [] within = refl
destination_fault-none nodes place (x ∷ xs) within =
    let rest = destination_fault-none nodes (place + 1) xs (All-tail (λ n. n < nodes) x xs within) in
    rw (le-leb (suc x) nodes (All-head (λ n. n < nodes) x xs within)) rest

-- the destinations
destinations_again : (size : ℕ) (graph : Graph) (rest : List ℕ) → IsGraph graph → destinations_at (written size graph) (destinations_of graph.edges ++ rest) ≡ Ok (map (λ (edge : Edge). edge.dst) graph.edges, rest)
destinations_again size graph rest is_graph =
    let f : Edge → ℕ = λ edge. edge.dst in
    numbers_again section.Destinations 4 (4 * length graph.edges) (destination_fault graph.nodes 0) (map f graph.edges) rest (lit< tt)
    (All-map (λ n. n < 256 ^ 4) f graph.edges (λ i d h. omega (arith, is_graph.nodes_fit, (is_graph.within i d h).1)))
    (destination_fault-none graph.nodes 0 (map f graph.edges) (All-map (λ n. n < graph.nodes) f graph.edges (λ i d h. omega (arith, (is_graph.within i d h).1))))
    (omega (arith, length-map graph.edges f))

-- as much padding is there as is asked for
length-padding : (odd : Bool) → length {A = ℕ} (if odd then 0 ∷ 0 ∷ 0 ∷ 0 ∷ [] else []) ≡ (if odd then 4 else 0)
length-padding true = refl
length-padding false = refl

-- the padding before weights
padding_again : (graph : Graph) (rest : List ℕ) → padding_at (written 4 graph) (padding_of graph.edges ++ rest) ≡ Ok (whole_numbers 4 (padding_of graph.edges), rest)
padding_again graph rest = section_at-whole section.Padding 4 (padding (written 4 graph)) no_fault (padding_of graph.edges) rest (length-padding (length graph.edges % 2 == 1)) refl

-- the weights
weights_again : (graph : Graph) (rest : List ℕ) → IsGraph graph → weights_at (written 4 graph) (weights_of 4 graph.edges ++ rest) ≡ Ok (map (λ (edge : Edge). edge.weight) graph.edges, rest)
weights_again graph rest is_graph =
    let f : Edge → ℕ = λ edge. edge.weight in
    numbers_again section.Weights 4 (4 * length graph.edges) no_fault (map f graph.edges) rest (lit< tt) (All-map (λ n. n < 256 ^ 4) f graph.edges is_graph.weighed) refl (omega (arith, length-map graph.edges f))

-- the sources
sources_again : (graph : Graph) → IsGraph graph → sources 0 0 (map (end_of graph.edges) (range_with_len 0 graph.nodes)) ≡ map source graph.edges
sources_again graph is_graph =
    let f = end_of graph.edges in
    let same : map f (range_with_len 0 graph.nodes) ≡ map (λ v. 0 + f v) (range_with_len 0 graph.nodes) = map-range_same f (λ v. 0 + f v) 0 graph.nodes (λ v h. omega arith) in
    ap (λ l. sources 0 0 l) same
    ∙ sources-ends graph.nodes 0 0 graph.edges (NeverFalls-from_sorted 0 graph.edges is_graph.by_source (λ i a h. omega arith)) (λ i d h. omega (arith, (is_graph.within i d h).0))

-- the edges without weights
plain_again : List Edge → List Edge
plain_again edges = plain_edges (map source edges) (map (λ (edge : Edge). edge.dst) edges)

-- the edges
edges_again : (edges : List Edge) → weighed (plain_again edges) (map (λ (edge : Edge). edge.weight) edges) ≡ edges
unfolding plain_again
edges_again [] = refl
edges_again (edge ∷ edges) = ap (λ l. edge ∷ l) (edges_again edges)

-- the edges, each of which has weight 1
edges_of_one : (edges : List Edge) → All (λ (edge : Edge). edge.weight ≡ 1) edges → plain_again edges ≡ edges
unfolding plain_again
edges_of_one [] ones = refl
edges_of_one (edge ∷ edges) ones =
    ap (λ (n : ℕ). let first : Edge = record { src = edge.src; dst = edge.dst; weight = n } in first ∷ plain_again edges) (sym (All-head (λ (e : Edge). e.weight ≡ 1) edge edges ones))
    ∙ ap (λ l. edge ∷ l) (edges_of_one edges (All-tail (λ (e : Edge). e.weight ≡ 1) edge edges ones))

-- four sections that are read make the rest of a file
rest_at-ok : (head : Head) (a b c d e index destinations skipped weights : List ℕ) → index_at head a ≡ Ok (index, b) → destinations_at head b ≡ Ok (destinations, c) → padding_at head c ≡ Ok (skipped, d)
    → weights_at head d ≡ Ok (weights, e) → rest_at head a ≡ Ok (record { nodes = head.nodes; edges = weighed (plain_edges (sources 0 0 index) destinations) weights }, e)
unfolding rest_at
rest_at-ok head a b c d e index destinations skipped weights first second third fourth = rw (first, second, third, fourth)

-- five sections and what follows them
regroup : (h i d p w a : List ℕ) → ((((h ++ i) ++ d) ++ p) ++ w) ++ a ≡ h ++ (i ++ (d ++ (p ++ (w ++ a))))
regroup h i d p w a = simp append_assoc

-- what follows the head, where the padding and the weights are read so
rest_again : (size : ℕ) (graph : Graph) (behind after middle skipped costs : List ℕ) → IsGraph graph → padding_at (written size graph) behind ≡ Ok (skipped, middle) → weights_at (written size graph) middle ≡ Ok (costs, after)
    → weighed (plain_again graph.edges) costs ≡ graph.edges → rest_at (written size graph) (index_of graph.nodes graph.edges ++ (destinations_of graph.edges ++ behind)) ≡ Ok (graph, after)
unfolding plain_again
rest_again size graph behind after middle skipped costs is_graph third fourth same =
    let dsts : List ℕ = map (λ (edge : Edge). edge.dst) graph.edges in
    let give : List Edge → Result (Graph × List ℕ) GrFault = λ edges. Ok (record { nodes = graph.nodes; edges = edges }, after) in
    rest_at-ok (written size graph) _ _ behind middle after (map (end_of graph.edges) (range_with_len 0 graph.nodes)) dsts skipped costs
    (index_again size graph (destinations_of graph.edges ++ behind) is_graph) (destinations_again size graph behind is_graph) third fourth
    ∙ ap (λ l. give (weighed (plain_edges l dsts) costs)) (sources_again graph is_graph) ∙ ap give same

-- a file
file_at-ok : (head : Head) (bytes rest after : List ℕ) (graph : Graph) → head_at bytes ≡ Ok (head, rest) → rest_at head rest ≡ Ok (graph, after) → file_at bytes ≡ Ok (graph, after)
unfolding file_at
file_at-ok head bytes rest after graph first second = rw (first, second)

-- the file
pub file_again : (size : ℕ) (graph : Graph) (after : List ℕ) → IsReadAgain size graph after
file_again size graph after = λ is_graph writable.
    let behind : ℕ → List ℕ = λ n. padding_of graph.edges ++ (weights_of n graph.edges ++ after) in
    let bytes : ℕ → List ℕ = λ n. index_of graph.nodes graph.edges ++ (destinations_of graph.edges ++ behind n) in
    let grouped : (n : ℕ) → file_of n graph ++ after ≡ head_of n graph ++ bytes n =
    λ n. regroup (head_of n graph) (index_of graph.nodes graph.edges) (destinations_of graph.edges) (padding_of graph.edges) (weights_of n graph.edges) after in
    ⊎_elim
    (λ (four : size ≡ 4). rw four (ap file_at (grouped 4)
    ∙ file_at-ok (written 4 graph) (head_of 4 graph ++ bytes 4) (bytes 4) after graph (head_again 4 graph (bytes 4) refl (lit< tt) is_graph)
    (rest_again 4 graph (behind 4) after (weights_of 4 graph.edges ++ after) (whole_numbers 4 (padding_of graph.edges)) (map (λ (edge : Edge). edge.weight) graph.edges) is_graph
    (padding_again graph (weights_of 4 graph.edges ++ after)) (weights_again graph after is_graph) (edges_again graph.edges))))
    (λ (none : (size ≡ 0) × All (λ (edge : Edge). edge.weight ≡ 1) graph.edges). rw none.0 (ap file_at (grouped 0)
    ∙ file_at-ok (written 0 graph) (head_of 0 graph ++ bytes 0) (bytes 0) (behind 0) graph (head_again 0 graph (bytes 0) refl (lit< tt) is_graph)
    (rest_again 0 graph (behind 0) (behind 0) (behind 0) [] [] is_graph
    (section_at-whole section.Padding 4 0 no_fault [] (behind 0) refl refl) (section_at-whole section.Weights 4 0 no_fault [] (behind 0) refl refl)
    (weighed-none (plain_again graph.edges) ∙ edges_of_one graph.edges none.1))))
    writable
