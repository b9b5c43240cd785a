-- What the destinations that came say of the edges.
use Rattle.std.proofs.Common.{◌≡◌, ℕ, ◌+◌, List, [], ◌++◌, length, drop, None, refl, sym, ap, ◌∙◌, arith, length-append}
use Rattle.graph_model.specs.declared.edge.Edge.{Edge}
use Rattle.edge_columns.specs.Columns.{sources, plain_edges}
use Rattle.gr_reader.specs.File.{destination_fault}
use Rattle.gr_reader.specs.EdgeLists.{TookDestinations}
use Rattle.edge_columns.proofs.EdgeLaws.{plain_edges-none, plain_edges-append}
use Rattle.gr_reader.proofs.EdgeLaws.{destination_fault-append}

-- nothing came yet
pub TookDestinations-none : (nodes : ℕ) (ends : List ℕ) → TookDestinations nodes ends [] []
TookDestinations-none nodes ends = record { edges_are = sym (plain_edges-none (sources 0 0 ends)); count = refl; clear = refl }

-- a fault of a piece is one of all that came
pub destination_fault-more : (nodes : ℕ) (ends : List ℕ) (edges : List Edge) (count : ℕ) (numbers more : List ℕ) → TookDestinations nodes ends edges numbers → count ≡ length edges
    → destination_fault nodes 0 (numbers ++ more) ≡ destination_fault nodes count more
destination_fault-more nodes ends edges count numbers more took same =
    let at : 0 + length numbers ≡ count = omega (arith, took.count) in
    destination_fault-append nodes 0 numbers more took.clear ∙ rw at refl

-- the edges of a piece more
pub TookDestinations-more : (nodes : ℕ) (ends : List ℕ) (edges : List Edge) (count : ℕ) (numbers more : List ℕ) → TookDestinations nodes ends edges numbers → count ≡ length edges → destination_fault nodes count more ≡ None
    → length (edges ++ plain_edges (drop count (sources 0 0 ends)) more) ≡ count + length more → TookDestinations nodes ends (edges ++ plain_edges (drop count (sources 0 0 ends)) more) (numbers ++ more)
TookDestinations-more nodes ends edges count numbers more took same none long =
    let at : length (plain_edges (sources 0 0 ends) numbers) ≡ count = ap length (sym took.edges_are) ∙ sym same in
    record {
      edges_are = sym (plain_edges-append (sources 0 0 ends) numbers more ∙ rw (at, ← took.edges_are) refl);
      count = omega (arith, long, length-append numbers more, took.count);
      clear = destination_fault-more nodes ends edges count numbers more took same ∙ none;
    }
