-- A run over hosts finds on its whole graph what walks give, whichever way the graph is divided.
use Rattle.std.proofs.Common.{ℕ, ◌-◌, ◌<◌, ◌^◌, Option, Some, None, sym, subst, arith}
use Rattle.std.specs.List.Sorted.{IsPermutation}
use Rattle.std.proofs.lemmas.List.Sorted.{All-permutation, IsPermutation-sym}
use Rattle.graph_model.specs.Graph.{Graph, IsGraph}
use Rattle.graph_model.specs.Arcs.{arcs_of}
use Rattle.graph_model.specs.declared.edge.Way.{Way}
use Rattle.graph_model.specs.Least.{Fares, bfs_fares, sssp_fares, cc_fares}
use Rattle.graph_model.specs.WalkCount.{IsWalkCount}
use Rattle.graph_model.proofs.ArcSets.{least_order_is_free, walk_count_order_is_free}
use Rattle.graph_division.specs.ProgramArcs.{IsArcOf, AreArcsOf}
use Rattle.graph_division.specs.Division.{Division, IsDivision, whole}
use Rattle.graph_division.proofs.GraphArcs.{graphs_have_arcs}
use Rattle.reduce_laws.specs.ReducerLaws.{least_laws}
use Rattle.graph_division.specs.DivisionOf.{IsDivisionOf}
use Rattle.vertex_programs.specs.Labels.{answer_of, label_after, Fits, StartsBelow}
use Rattle.vertex_programs.specs.Programs.{label_laws, root_starts_below, own_starts_below}
use Rattle.vertex_programs.specs.LabelPackets.{AreLeast}
use Rattle.vertex_programs.specs.RunLaws.{label_run, FindsLeast, LabelsFindLeast, SendsLabels, LabelsAreSent, LeastExist}
use Rattle.vertex_programs.proofs.LeastLabels.{rounds_are_walks, number_of-answer_of}
use Rattle.vertex_programs.proofs.Ending.{counts_agree, rounds_end, last_labels_are_least}
use Rattle.vertex_programs.proofs.Brought.{IsLabelRun}
use Rattle.vertex_programs.proofs.Holding.{reduce_is_least, broadcast_is_least}
use Rattle.vertex_programs.proofs.Fitting.{programs_fit}

module _ (graph : Graph) (way : Way) (division : Division) (is_graph : IsGraph graph) (divides : IsDivisionOf graph way division) where
  -- the arcs of all hosts are arcs of the graph's nodes
  arcs_fit : AreArcsOf division.nodes (whole division)
  arcs_fit =
      subst (λ nodes. AreArcsOf nodes (whole division)) (sym divides.nodes)
      (let fact = graphs_have_arcs graph way is_graph in
      record { few = fact.few; within = All-permutation (IsArcOf graph.nodes) (arcs_of way graph.edges) (whole division) divides.arcs fact.within })

  -- back from the hosts' order to the graph's
  back : IsPermutation (whole division) (arcs_of way graph.edges)
  back = IsPermutation-sym (arcs_of way graph.edges) (whole division) divides.arcs

  -- the vertices of a division are the nodes of its graph
  vertex : (v : ℕ) → v < graph.nodes → v < division.nodes
  vertex v below = omega (arith, below, divides.nodes)

  node : (v : ℕ) → v < division.nodes → v < graph.nodes
  node v below = omega (arith, below, divides.nodes)

pub labels_find_least : (size : ℕ) (fares : Fares) → LabelsFindLeast size fares
labels_find_least size fares graph way division is_graph divides fits =
    let limit = 256 ^ size in
    let arcs = arcs_of way graph.edges in
    let fact = arcs_fit graph way division is_graph divides in
    let fits_here = subst (λ nodes. Fits limit nodes fares) (sym divides.nodes) fits in
    let returns = back graph way division is_graph divides in
    let counts = counts_agree limit fares division.nodes (whole division) in record {
      states = λ rounds v. sym (number_of-answer_of (limit - 1) (label_after limit fares (whole division) rounds v));
      by_round = λ rounds v below.
          least_order_is_free fares (whole division) arcs (Some rounds) v _ returns
          (rounds_are_walks limit fares division.nodes (whole division) rounds v fact fits_here (vertex graph way division is_graph divides v below));
      counts = λ rounds. (
        λ count. subst (λ nodes. IsWalkCount fares nodes arcs rounds) divides.nodes (walk_count_order_is_free fares division.nodes (whole division) arcs rounds returns ((counts rounds fact fits_here).0 count)),
        λ count. (counts rounds fact fits_here).1 (walk_count_order_is_free fares division.nodes arcs (whole division) rounds divides.arcs (subst (λ nodes. IsWalkCount fares nodes arcs rounds) (sym divides.nodes) count)),
      );
      ends = (let end = rounds_end limit fares division.nodes (whole division) fact fits_here in
          (end.0, (let soon = end.1 in omega (arith, soon, divides.nodes)), (counts end.0 fact fits_here).1 end.2));
      at_last = λ rounds later v count after below.
          least_order_is_free fares (whole division) arcs None v _ returns
          (last_labels_are_least limit fares division.nodes (whole division) rounds later v fact fits_here (vertex graph way division is_graph divides v below) ((counts rounds fact fits_here).0 count) after);
    }

-- a limit that has room is above 0
some_limit : (limit nodes : ℕ) (fares : Fares) → Fits limit nodes fares → 0 < limit
some_limit limit nodes fares fits = let room = fits.room in omega arith

-- what is known of a run of a program of labels on a graph's division
is_label_run : (size : ℕ) (fares : Fares) (graph : Graph) (way : Way) (division : Division) (plain : ℕ → ℕ → Option ℕ) → IsGraph graph → IsDivision division → IsDivisionOf graph way division → Fits (256 ^ size) graph.nodes fares → StartsBelow (256 ^ size) fares → AreLeast fares graph.nodes (arcs_of way graph.edges) plain → IsLabelRun (256 ^ size) size fares division plain
is_label_run size fares graph way division plain is_graph is_division divides fits starts are_least = record {
  is_run = record {
    divided = is_division;
    reduction = least_laws (256 ^ size) (some_limit (256 ^ size) graph.nodes fares fits);
    program = label_laws (256 ^ size) fares (some_limit (256 ^ size) graph.nodes fares fits) starts;
  };
  fits = subst (λ nodes. Fits (256 ^ size) nodes fares) (sym divides.nodes) fits;
  is_least = λ rounds v below.
      least_order_is_free fares (arcs_of way graph.edges) (whole division) (Some rounds) v (plain rounds v) divides.arcs
      (are_least rounds v (node graph way division is_graph divides v below));
}

pub labels_are_sent : (size : ℕ) (fares : Fares) → LabelsAreSent size fares
labels_are_sent size fares graph way division plain is_graph is_division divides fits starts are_least =
    let is = is_label_run size fares graph way division plain is_graph is_division divides fits starts are_least in record {
      reduces = λ rounds from to there. reduce_is_least (256 ^ size) size fares division plain is rounds from to there;
      broadcasts = λ rounds from to. broadcast_is_least (256 ^ size) size fares division plain is rounds from to;
    }

pub least_exist : (size : ℕ) (fares : Fares) → LeastExist size fares
least_exist size fares graph way is_graph fits = (
  λ rounds v. answer_of (256 ^ size - 1) (label_after (256 ^ size) fares (arcs_of way graph.edges) rounds v),
  λ rounds v below. rounds_are_walks (256 ^ size) fares graph.nodes (arcs_of way graph.edges) rounds v (graphs_have_arcs graph way is_graph) fits below,
)

-- the three programs
pub bfs_finds : (root : ℕ) (graph : Graph) (way : Way) (division : Division) → IsGraph graph → IsDivisionOf graph way division → FindsLeast (256 ^ 4 - 1) (bfs_fares root) graph way (label_run 4 (bfs_fares root) division)
bfs_finds root graph way division is_graph divides = labels_find_least 4 (bfs_fares root) graph way division is_graph divides (programs_fit graph.nodes root is_graph.nodes_fit).0

pub sssp_finds : (root : ℕ) (graph : Graph) (way : Way) (division : Division) → IsGraph graph → IsDivisionOf graph way division → FindsLeast (256 ^ 8 - 1) (sssp_fares root) graph way (label_run 8 (sssp_fares root) division)
sssp_finds root graph way division is_graph divides = labels_find_least 8 (sssp_fares root) graph way division is_graph divides (programs_fit graph.nodes root is_graph.nodes_fit).1

pub cc_finds : (graph : Graph) (way : Way) (division : Division) → IsGraph graph → IsDivisionOf graph way division → FindsLeast (256 ^ 4 - 1) cc_fares graph way (label_run 4 cc_fares division)
cc_finds graph way division is_graph divides = labels_find_least 4 cc_fares graph way division is_graph divides (programs_fit graph.nodes 0 is_graph.nodes_fit).2

pub bfs_sends : (root : ℕ) (graph : Graph) (way : Way) (division : Division) (plain : ℕ → ℕ → Option ℕ) → IsGraph graph → IsDivision division → IsDivisionOf graph way division → AreLeast (bfs_fares root) graph.nodes (arcs_of way graph.edges) plain → SendsLabels (256 ^ 4 - 1) (bfs_fares root) plain (label_run 4 (bfs_fares root) division)
bfs_sends root graph way division plain is_graph is_division divides are_least =
    labels_are_sent 4 (bfs_fares root) graph way division plain is_graph is_division divides (programs_fit graph.nodes root is_graph.nodes_fit).0
    (root_starts_below (256 ^ 4) root (λ weight. 1) (omega arith)) are_least

pub sssp_sends : (root : ℕ) (graph : Graph) (way : Way) (division : Division) (plain : ℕ → ℕ → Option ℕ) → IsGraph graph → IsDivision division → IsDivisionOf graph way division → AreLeast (sssp_fares root) graph.nodes (arcs_of way graph.edges) plain → SendsLabels (256 ^ 8 - 1) (sssp_fares root) plain (label_run 8 (sssp_fares root) division)
sssp_sends root graph way division plain is_graph is_division divides are_least =
    labels_are_sent 8 (sssp_fares root) graph way division plain is_graph is_division divides (programs_fit graph.nodes root is_graph.nodes_fit).1
    (root_starts_below (256 ^ 8) root (λ weight. weight) (omega arith)) are_least

pub cc_sends : (graph : Graph) (way : Way) (division : Division) (plain : ℕ → ℕ → Option ℕ) → IsGraph graph → IsDivision division → IsDivisionOf graph way division → AreLeast cc_fares graph.nodes (arcs_of way graph.edges) plain → SendsLabels (256 ^ 4 - 1) cc_fares plain (label_run 4 cc_fares division)
cc_sends graph way division plain is_graph is_division divides are_least =
    labels_are_sent 4 cc_fares graph way division plain is_graph is_division divides (programs_fit graph.nodes 0 is_graph.nodes_fit).2 own_starts_below are_least
