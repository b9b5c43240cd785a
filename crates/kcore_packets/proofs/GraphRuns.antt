-- A run of k-core over hosts peels its whole graph, whichever way the graph is divided.
use Rattle.std.proofs.Common.{◌≡◌, ℕ, zero, suc, cond, List, refl, sym, ◌∙◌, ap, subst}
use Rattle.std.specs.List.Sorted.{IsPermutation}
use Rattle.std.proofs.lemmas.List.Sorted.{IsPermutation-sym}
use Rattle.graph_model.specs.Graph.{Graph, IsGraph}
use Rattle.graph_model.specs.Arcs.{Arc, arcs_of}
use Rattle.graph_model.specs.declared.edge.Way.{Way}
use Rattle.graph_model.specs.Core.{inner_degree}
use Rattle.graph_model.specs.Peeling.{peel, IsPeelCount}
use Rattle.graph_model.proofs.InnerDegrees.{inner_degree_agrees, inner_degree_permuted}
use Rattle.graph_model.proofs.PeelLaws.{peeling_ends, peeling_order_is_free, peel_count_order_is_free, core_order_is_free}
use Rattle.graph_division.specs.Division.{Division, whole}
use Rattle.reduce_laws.specs.Reducers.{wrapping_sum}
use Rattle.lone_rounds.specs.RoundCount.{IsRoundCount}
use Rattle.graph_division.specs.DivisionOf.{IsDivisionOf}
use Rattle.kcore_program.specs.declared.core_state.CoreState.TheVariants.{Stays, Left}
use Rattle.kcore_program.specs.Steps.{core_steps}
use Rattle.kcore_program.specs.Tallies.{peeled_state}
use Rattle.kcore_program.specs.Laws.{AreCounted}
use Rattle.kcore_program.proofs.Rounds.{graphs_are_counted, rounds_peel, round_count_is_peel_count, answers_are_core}
use Rattle.kcore_packets.specs.Laws.{FindsCore, SendsTallies}
use Rattle.kcore_packets.proofs.Closed.{kcore_run, all_counted, tallies_sent, leavers_told}

-- the order of the arcs makes no difference to the states of peeling
peeled_in_any_order : (k nodes : ℕ) (arcs others : List Arc) → IsPermutation arcs others → (rounds v : ℕ) → peeled_state k nodes arcs rounds v ≡ peeled_state k nodes others rounds v
peeled_in_any_order k nodes arcs others moved zero v = refl
peeled_in_any_order k nodes arcs others moved (suc rounds) v =
    ap (λ b. cond b (Stays (inner_degree arcs (peel k nodes arcs rounds) v)) Left) (peeling_order_is_free k nodes arcs others (suc rounds) v moved)
    ∙ ap (λ n. cond (peel k nodes others (suc rounds) v) (Stays n) Left)
    (inner_degree_agrees arcs (peel k nodes arcs rounds) (peel k nodes others rounds) v (λ u. peeling_order_is_free k nodes arcs others rounds u moved)
    ∙ inner_degree_permuted arcs others (peel k nodes others rounds) v moved)

module _ (k : ℕ) (graph : Graph) (way : Way) (division : Division) (is_graph : IsGraph graph) (divides : IsDivisionOf graph way division) where
  abbrev arcs : List Arc
  arcs = arcs_of way graph.edges

  -- the graph's arcs can be counted
  counted : AreCounted division.nodes arcs
  counted = subst (λ nodes. AreCounted nodes arcs) (sym divides.nodes) (graphs_are_counted graph way is_graph)

  -- so can those of all hosts
  whole_counted : AreCounted graph.nodes (whole division)
  whole_counted = subst (λ nodes. AreCounted nodes (whole division)) divides.nodes (all_counted k arcs division counted divides.arcs)

  back : IsPermutation (whole division) arcs
  back = IsPermutation-sym arcs (whole division) divides.arcs

  -- the run's last round is that of peeling
  peels : (rounds : ℕ) → IsRoundCount wrapping_sum (core_steps k) division.nodes (whole division) rounds → IsPeelCount k graph.nodes arcs rounds
  peels rounds count =
      peel_count_order_is_free k graph.nodes (whole division) arcs rounds back
      ((round_count_is_peel_count k graph.nodes (whole division) rounds whole_counted).0
      (subst (λ nodes. IsRoundCount wrapping_sum (core_steps k) nodes (whole division) rounds) divides.nodes count))

  -- and the last round of peeling is that of the run
  runs : (rounds : ℕ) → IsPeelCount k graph.nodes arcs rounds → IsRoundCount wrapping_sum (core_steps k) division.nodes (whole division) rounds
  runs rounds count =
      subst (λ nodes. IsRoundCount wrapping_sum (core_steps k) nodes (whole division) rounds) (sym divides.nodes)
      ((round_count_is_peel_count k graph.nodes (whole division) rounds whole_counted).1
      (peel_count_order_is_free k graph.nodes arcs (whole division) rounds divides.arcs count))

  pub finds_core : FindsCore k graph way (kcore_run k division)
  finds_core = record {
    by_round = λ rounds v below.
        rounds_peel k graph.nodes (whole division) rounds v whole_counted below
        ∙ peeled_in_any_order k graph.nodes (whole division) arcs back rounds v;
    counts = λ rounds. (peels rounds, runs rounds);
    ends = (let end = peeling_ends k graph.nodes arcs in (end.0, end.1, runs end.0 end.2));
    at_last = λ core rounds later v is_core count after below.
        answers_are_core k graph.nodes (whole division) core rounds later v whole_counted
        (core_order_is_free k graph.nodes arcs (whole division) core divides.arcs is_core)
        (peel_count_order_is_free k graph.nodes arcs (whole division) rounds divides.arcs (peels rounds count)) after below;
  }

  pub sends_tallies : SendsTallies k arcs (kcore_run k division)
  sends_tallies = record {
    reduces = λ rounds from to there. tallies_sent k arcs division counted divides.arcs rounds from to there;
    broadcasts = λ rounds from to. leavers_told k arcs division counted divides.arcs rounds from to;
  }
