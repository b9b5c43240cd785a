-- What is written is read again.
use Rattle.std.specs.Prelude.{◌≡◌, ℕ, ◌==◌, List, [], ◌++◌, Ok, if◌then◌else◌}
use Rattle.graph_model.specs.Graph.{Graph, IsGraph}
use Rattle.graph_model.specs.declared.edge.Edge.{Edge}
use Rattle.gr_reader.specs.File.{file_at}
use Rattle.gr_writer.specs.File.{file_of, padding_of, IsWritable}

-- the bytes of a file that a reader leaves: the padding where no weights follow it
abbrev pub left_of : ℕ → List Edge → List ℕ
left_of size edges = if size == 0 then padding_of edges else []

-- the file of a graph means that graph, whatever bytes follow it
abbrev pub IsReadAgain : ℕ → Graph → List ℕ → Type 0
IsReadAgain size graph after =
    IsGraph graph → IsWritable size graph.edges
    → file_at (file_of size graph ++ after) ≡ Ok (graph, left_of size graph.edges ++ after)
