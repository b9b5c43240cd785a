-- From the answers of a run to what is told of walks and of the core.
use Rattle.std.proofs.Common.{◌≡◌, ℕ, zero, suc, ◌+◌, ◌-◌, ◌<◌, ◌≤◌, ◌^◌, ◌==◌, Bool, cond, List, length, map, All, Option, Some, None, refl, ap, ◌∙◌, arith}
use Rattle.std.specs.Prelude.{if◌then◌else◌}
use Rattle.std.specs.List.{range_with_len}
use Rattle.std.specs.Option.{ForSome}
use Rattle.std.proofs.lemmas.Bool.Decides.{nat_tests}
use Rattle.std.proofs.lemmas.List.Elements.{All-map}
use Rattle.std.proofs.lemmas.List.FromFn.{length-map-range_with_len}
use Rattle.graph_model.specs.Graph.{Graph, IsGraph}
use Rattle.graph_model.specs.Arcs.{Arc, arcs_of, out_arc}
use Rattle.graph_model.specs.declared.edge.Edge.{Edge}
use Rattle.graph_model.specs.declared.edge.Way.{Way}
use Rattle.graph_model.specs.declared.edge.Way.TheVariants.{Outward, Both}
use Rattle.graph_model.specs.Least.{Fares, bfs_fares, sssp_fares, cc_fares}
use Rattle.graph_model.proofs.PeelLaws.{core_exists}
use Rattle.cusp_rules.specs.Hosts.{IsHostCount}
use Rattle.edge_owner.specs.declared.rules.Rules.{Rules}
use Rattle.graph_division.specs.Partition.{division_of}
use Rattle.share_plan.specs.Owners.{shares_of}
use Rattle.kcore_packets.specs.Laws.{FindsCore}
use Rattle.kcore_packets.proofs.Closed.{kcore_run}
use Rattle.kcore_packets.proofs.GraphRuns.{finds_core}
use Rattle.round_packets.specs.Runs.{state_of}
use Rattle.vertex_programs.specs.RunLaws.{label_run, FindsLeast}
use Rattle.vertex_programs.proofs.GraphRuns.{bfs_finds, sssp_finds, cc_finds}
use Rattle.trial_runs.specs.Runs.{EndsWithin, AnswersAtLast, TellsLeast, TellsCore}
use Rattle.trial_runs.proofs.Bounds.{least_within, all_answers}
use Rattle.share_plan.proofs.Divisions.{is_division_of}

-- as many answers as vertices
pub length_told : (list answers : List (Option ℕ)) (f : ℕ → Option ℕ) (nodes : ℕ) → list ≡ answers → answers ≡ map f (range_with_len 0 nodes) → length list ≡ nodes
length_told list answers f nodes same told = ap (λ (xs : List (Option ℕ)). length xs) (same ∙ told) ∙ length-map-range_with_len f 0 nodes

module _ (rules : Rules) (hosts : ℕ) (graph : Graph) (counted : IsHostCount hosts) (fact : IsGraph graph) where
  -- the runs of the four programs
  pub bfs_here : FindsLeast (256 ^ 4 - 1) (bfs_fares 0) graph Outward (label_run 4 (bfs_fares 0) (division_of Outward (shares_of rules hosts graph)))
  bfs_here = bfs_finds 0 graph Outward (division_of Outward (shares_of rules hosts graph)) fact (is_division_of Outward rules hosts graph counted fact)

  pub sssp_here : FindsLeast (256 ^ 8 - 1) (sssp_fares 0) graph Outward (label_run 8 (sssp_fares 0) (division_of Outward (shares_of rules hosts graph)))
  sssp_here = sssp_finds 0 graph Outward (division_of Outward (shares_of rules hosts graph)) fact (is_division_of Outward rules hosts graph counted fact)

  pub cc_here : FindsLeast (256 ^ 4 - 1) cc_fares graph Both (label_run 4 cc_fares (division_of Both (shares_of rules hosts graph)))
  cc_here = cc_finds graph Both (division_of Both (shares_of rules hosts graph)) fact (is_division_of Both rules hosts graph counted fact)

  pub kcore_here : FindsCore 8 graph Both (kcore_run 8 (division_of Both (shares_of rules hosts graph)))
  kcore_here = finds_core 8 graph Both (division_of Both (shares_of rules hosts graph)) fact (is_division_of Both rules hosts graph counted fact)

-- walks from a root start with 0
pub root_starts : (root u begin : ℕ) → (if u == root then Some 0 else None) ≡ Some begin → begin ≡ 0
root_starts root u begin starts = grind (arith, nat_tests)

-- the arcs that follow light edges outward are light
pub arcs_light : (edges : List Edge) → All (λ edge. edge.weight ≤ 1000) edges → All (λ arc. arc.weight ≤ 1000) (arcs_of Outward edges)
arcs_light edges light = All-map (λ (arc : Arc). arc.weight ≤ 1000) out_arc edges light

-- maps that agree on a range
same_map : (f g : ℕ → Option ℕ) (n a : ℕ) → ((v : ℕ) → a ≤ v → v < a + n → f v ≡ g v) → map f (range_with_len a n) ≡ map g (range_with_len a n)
same_map f g zero a agree = refl
same_map f g (suc n) a agree =
    let rest = same_map f g n (a + 1) (λ v from below. agree v (omega arith) (omega arith)) in
    let here = agree a (omega arith) (omega arith) in
    cc

module _ (size : ℕ) (fares : Fares) (rules : Rules) (hosts : ℕ) (graph : Graph) (way : Way) (finds : FindsLeast (256 ^ size - 1) fares graph way (label_run size fares (division_of way (shares_of rules hosts graph)))) where
  -- a run of labels comes to its end
  pub labels_end : EndsWithin (label_run size fares (division_of way (shares_of rules hosts graph))) (graph.nodes + 1)
  labels_end = (finds.ends.0, omega (arith, finds.ends.1), finds.ends.2)

  module _ (answers : List (Option ℕ)) (old new : Option ℕ) (last : AnswersAtLast (label_run size fares (division_of way (shares_of rules hosts graph))) graph.nodes answers old new) where
    -- what each vertex answers at last
    abbrev pub least_at : ℕ → Option ℕ
    least_at v =
        let run = label_run size fares (division_of way (shares_of rules hosts graph)) in
        run.steps.answer (state_of run last.rounds v)

    -- what is told of these answers is told of the least that walks give
    pub tells_least : (Told : (ℕ → Option ℕ) → Type 0) → Told least_at → TellsLeast fares way rules hosts graph Told old new
    tells_least Told told = record {
      least = least_at;
      are_least = λ v below. finds.at_last last.rounds last.rounds v last.takes (omega arith) below;
      told = told;
      rounds = last.rounds;
      takes = (finds.counts last.rounds).0 last.takes;
      asked = last.asked;
    }

    -- answers that start with 0 and go along light arcs are small
    pub small_answers : ((u begin : ℕ) → fares.start u ≡ Some begin → begin ≡ 0) → All (λ arc. fares.cost arc.weight ≤ 1000) (arcs_of way graph.edges) → graph.nodes ≤ 1000000
        → All (λ answer. ForSome answer (λ x. x < 2 ^ 32)) answers
    small_answers from_zero light few =
        all_answers (λ answer. ForSome answer (λ x. x < 2 ^ 32)) least_at graph.nodes answers last.told
        (λ v below x is.
        let bound = least_within fares (arcs_of way graph.edges) 1000 last.rounds v (least_at v) from_zero light (finds.by_round last.rounds v below) x is in
        omega (arith, bound, last.within, few))

module _ (k : ℕ) (rules : Rules) (hosts : ℕ) (graph : Graph) (way : Way) (finds : FindsCore k graph way (kcore_run k (division_of way (shares_of rules hosts graph)))) where
  -- a run of k-core comes to its end
  pub core_ends : EndsWithin (kcore_run k (division_of way (shares_of rules hosts graph))) (graph.nodes + 1)
  core_ends = (finds.ends.0, finds.ends.1, finds.ends.2)

  -- who is in the core
  abbrev pub in_core : ℕ → Bool
  in_core = (core_exists k graph.nodes (arcs_of way graph.edges)).0

  module _ (answers : List (Option ℕ)) (old new : Option ℕ) (last : AnswersAtLast (kcore_run k (division_of way (shares_of rules hosts graph))) graph.nodes answers old new) where
    -- members answer 1, and all others 0
    pub member_answers : answers ≡ map (λ v. Some (cond (in_core v) 1 0)) (range_with_len 0 graph.nodes)
    member_answers =
        last.told
        ∙ same_map _ (λ v. Some (cond (in_core v) 1 0)) graph.nodes 0
        (λ v from below. finds.at_last in_core last.rounds last.rounds v (core_exists k graph.nodes (arcs_of way graph.edges)).1 last.takes (omega arith) (omega arith))

    -- what is told of the core
    pub tells_core : (Told : (ℕ → Bool) → Type 0) → Told in_core → TellsCore k way rules hosts graph Told old new
    tells_core Told told = record {
      core = in_core;
      is_core = (core_exists k graph.nodes (arcs_of way graph.edges)).1;
      told = told;
      rounds = last.rounds;
      takes = (finds.counts last.rounds).0 last.takes;
      asked = last.asked;
    }

    -- answers of 0 and 1 are small
    pub small_bits : All (λ answer. ForSome answer (λ x. x < 2 ^ 32)) answers
    small_bits =
        all_answers (λ answer. ForSome answer (λ x. x < 2 ^ 32)) (λ v. Some (cond (in_core v) 1 0)) graph.nodes answers member_answers
        (λ v below x is. bit (in_core v) x is)
      where
        bit : (b : Bool) (x : ℕ) → Some (cond b 1 0) ≡ Some x → x < 2 ^ 32
        bit b x is = grind arith
