-- What the bytes of a .gr file mean: a graph and the bytes that follow it, or the first fault.
--
-- The file has a head, an index with the end of each node's range of edges, the destinations of the edges,
-- and, where an edge has 4 bytes of weight, padding up to a multiple of 8 and the weights. Each section is
-- looked at as a whole. What follows the last field is not looked at.
use Rattle.std.specs.Prelude.{ℕ, ◌+◌, ◌*◌, ◌%◌, Bool, true, false, ◌==◌, ◌||◌, ◌&&◌, nat_lt, nat_le, if◌then◌else◌, List, [], ◌∷◌, length, take, drop, Option, Some, None, Result, Ok, Err}
use Rattle.list_laws.specs.LittleEndian.{le_number, whole_numbers}
use Rattle.graph_model.specs.Graph.{Graph, most_nodes, most_edges}
use Rattle.edge_columns.specs.Columns.{last_entry, sources, plain_edges, weighed}
use Rattle.gr_reader.specs.declared.head.Head.{Head}
use Rattle.gr_reader.specs.declared.section.Section.{Section}
use Rattle.gr_reader.specs.declared.section.Section.TheVariants as section
use Rattle.gr_reader.specs.declared.fault.GrFault.{GrFault}
use Rattle.gr_reader.specs.declared.fault.GrFault.TheVariants.{Ends, Version, EdgeSize, Nodes, Edges, IndexFalls, IndexEnds, Destination}

-- the first fault ends it
infixl 10 ◌>>=◌
abbrev pub ◌>>=◌ : {A B : Type 0} → Result A GrFault → (A → Result B GrFault) → Result B GrFault
(Ok x) >>= f = f x
(Err fault) >>= f = Err fault

-- nothing where the test passes, else the fault
abbrev pub demand : Bool → GrFault → Result (Unit {0}) GrFault
demand true fault = Ok tt
demand false fault = Err fault

-- nothing where no fault was found, else the fault
abbrev pub refuse : Option GrFault → Result (Unit {0}) GrFault
refuse None = Ok tt
refuse (Some fault) = Err fault

-- the number of 8 bytes at this place
abbrev pub long_at : ℕ → List ℕ → ℕ
long_at place bytes = le_number (take 8 (drop place bytes))

-- The head: 32 bytes, four numbers of 8 bytes.
unfoldable pub head_at : List ℕ → Result (Head × List ℕ) GrFault
head_at bytes = do
  _ ← demand (nat_le 32 (length bytes)) (Ends section.Head (length bytes))
  _ ← demand (long_at 0 bytes == 1) (Version (long_at 0 bytes))
  _ ← demand (long_at 8 bytes == 0 || long_at 8 bytes == 4) (EdgeSize (long_at 8 bytes))
  _ ← demand (nat_le (long_at 16 bytes) most_nodes) (Nodes (long_at 16 bytes))
  _ ← demand (nat_le (long_at 24 bytes) most_edges) (Edges (long_at 24 bytes))
  Ok (record { version = long_at 0 bytes; edge_size = long_at 8 bytes; nodes = long_at 16 bytes; edges = long_at 24 bytes }, drop 32 bytes)

-- A section of so many bytes, all of it numbers of `size` bytes: these numbers, unless they have a fault.
unfoldable pub section_at : Section → (size want : ℕ) → (fault : List ℕ → Option GrFault) → List ℕ → Result (List ℕ × List ℕ) GrFault
section_at part size want fault bytes =
    let came = take want bytes in do
      _ ← refuse (fault (whole_numbers size came))
      _ ← demand (nat_le want (length came)) (Ends part (length came))
      Ok (whole_numbers size came, drop want bytes)

-- numbers that may be any have no fault
abbrev pub no_fault : List ℕ → Option GrFault
no_fault numbers = None

-- the first entry that is below the one before it, by its place, counted on from `place`
abbrev pub entry_fault : (place before : ℕ) → List ℕ → Option GrFault
entry_fault place before [] = None
entry_fault place before (entry ∷ entries) = if nat_lt entry before then Some (IndexFalls place) else entry_fault (place + 1) entry entries

-- The index: an entry of 8 bytes for each node. No entry is below the one before, and the last is the number of edges.
unfoldable pub index_at : Head → List ℕ → Result (List ℕ × List ℕ) GrFault
index_at head bytes = do
  entries ← section_at section.Index 8 (8 * head.nodes) (entry_fault 0 0) bytes
  _ ← demand (last_entry 0 entries.0 == head.edges) (IndexEnds (last_entry 0 entries.0) head.edges)
  Ok entries

-- the first destination that is not a node, with its place, counted on from `place`
abbrev pub destination_fault : (nodes place : ℕ) → List ℕ → Option GrFault
destination_fault nodes place [] = None
destination_fault nodes place (destination ∷ destinations) =
    if nat_lt destination nodes then destination_fault nodes (place + 1) destinations else Some (Destination place destination)

-- The destinations: 4 bytes for each edge, the number of a node.
abbrev pub destinations_at : Head → List ℕ → Result (List ℕ × List ℕ) GrFault
destinations_at head bytes = section_at section.Destinations 4 (4 * head.edges) (destination_fault head.nodes 0) bytes

-- the bytes of padding before the weights
abbrev pub padding : Head → ℕ
padding head = if head.edge_size == 4 && head.edges % 2 == 1 then 4 else 0

-- The padding: any bytes.
abbrev pub padding_at : Head → List ℕ → Result (List ℕ × List ℕ) GrFault
padding_at head bytes = section_at section.Padding 4 (padding head) no_fault bytes

-- the bytes of the weights
abbrev pub weight_bytes : Head → ℕ
weight_bytes head = if head.edge_size == 0 then 0 else 4 * head.edges

-- The weights: 4 bytes for each edge, or none.
abbrev pub weights_at : Head → List ℕ → Result (List ℕ × List ℕ) GrFault
weights_at head bytes = section_at section.Weights 4 (weight_bytes head) no_fault bytes

-- what follows the head: the graph, and the bytes after it
unfoldable pub rest_at : Head → List ℕ → Result (Graph × List ℕ) GrFault
rest_at head bytes = do
  index ← index_at head bytes
  destinations ← destinations_at head index.1
  after ← padding_at head destinations.1
  weights ← weights_at head after.1
  Ok (record { nodes = head.nodes; edges = weighed (plain_edges (sources 0 0 index.0) destinations.0) weights.0 }, weights.1)

-- a whole file: the graph, and the bytes after it
unfoldable pub file_at : List ℕ → Result (Graph × List ℕ) GrFault
file_at bytes = do
  head ← head_at bytes
  rest_at head.0 head.1
