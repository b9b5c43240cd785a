-- What the vertices answer once a run has come to its end.
use Rattle.std.proofs.Common.{◌≡◌, ℕ, ◌+◌, List, map, Option, Result, Err, sym, ap, ◌∙◌, subst, arith}
use Rattle.std.specs.Prelude.{option_map}
use Rattle.std.specs.List.{range_with_len}
use Rattle.reduce_laws.specs.ReductionLaws.{Reducer}
use Rattle.reduce_laws.specs.ProgramLaws.{Steps}
use Rattle.graph_model.specs.declared.edge.Way.{Way}
use Rattle.graph_division.specs.Shares.{Share}
use Rattle.graph_division.specs.Partition.{division_of}
use Rattle.memo_exchange.specs.Asks.{asked_after}
use Rattle.round_packets.specs.Runs.{Run, state_of}
use Rattle.host_state.specs.Serving.{run_of}
use Rattle.round_driver.specs.ClusterState.{ClusterState, StandsNow, shares_of, division_in}
use Rattle.run_text.specs.Asks.{asks}
use Rattle.run_engine.specs.Running.{KeepsChanging, HasFinished}
use Rattle.run_engine.specs.Quiet.{EndsQuietly}
use Rattle.run_engine.specs.declared.fault.QuietFault.{QuietFault}
use Rattle.run_engine.specs.declared.fault.QuietFault.TheVariants.{Spent}
use Rattle.run_engine.specs.declared.finished.Finished.{Finished}
use Rattle.trial_runs.specs.Runs.{EndsWithin, AnswersAtLast}

-- a run that ends within its rounds does not change something in each of them
pub comes_to_end : {Item State Shown : Type 0} (run : Run Item State Shown) (budget : ℕ) → EndsWithin run budget → KeepsChanging run budget → ⊥
comes_to_end run budget ends changes =
    let count = ends.2 in
    changes count.before (omega (arith, count.last, ends.1)) count.quiet

-- nor does one that ends within a budget spend it
pub never_spent : {X Item State Shown : Type 0} (run_on : List Share → Run Item State Shown) (shares held : List Share) (budget nodes : ℕ) (result : Result X QuietFault) (fault : QuietFault) (spent : ℕ) → shares ≡ held → budget ≡ nodes + 1
    → EndsWithin (run_on held) (nodes + 1) → result ≡ Err fault → fault ≡ Spent spent → EndsQuietly (run_on shares) budget result → ⊥
never_spent {X} run_on shares held budget nodes result fault spent same allowed ends failed was quiet =
    let known = subst (λ (r : Result X QuietFault). EndsQuietly (run_on shares) budget r) (failed ∙ ap Err was) quiet in
    let changes = subst (λ (s : List Share). KeepsChanging (run_on s) budget) same known.1 in
    comes_to_end (run_on held) (nodes + 1) ends (subst (λ (n : ℕ). KeepsChanging (run_on held) n) allowed changes)

module _ {Program Item State Shown : Type 0} (item_bytes : Item → List ℕ) (shown_bytes : Shown → List ℕ) (reducer : Reducer Item) (steps : Program → Steps Item State Shown) (item_size shown_size : ℕ) where
  -- the run of a program on the graph of a partition
  abbrev pub run_on : Program → Way → List Share → Run Item State Shown
  run_on program way shares = run_of reducer (steps program) item_size shown_size (division_of way shares)

  module _ (program : Program) (way : Way) (shares : List Share) (budget : ℕ) (cluster : ClusterState Program Item State Shown) (finished : Finished) (ended : HasFinished item_bytes shown_bytes (run_on program way shares) program way shares budget cluster finished) where
    -- the cluster's run is that of its program on these shares
    same_run : run_on cluster.program cluster.way (shares_of cluster) ≡ run_on program way shares
    same_run =
        ap (λ (p : Program). run_on p cluster.way (shares_of cluster)) ended.has_run.same_program
        ∙ ap (λ (w : Way). run_on program w (shares_of cluster)) ended.has_run.same_way
        ∙ ap (λ (s : List Share). run_on program way s) ended.has_run.same_shares

    -- the cluster stands, in the words of its own program
    pub stands_itself : StandsNow reducer (steps cluster.program) item_size shown_size item_bytes shown_bytes cluster
    stands_itself = subst (λ (p : Program). StandsNow reducer (steps p) item_size shown_size item_bytes shown_bytes cluster) (sym ended.has_run.same_program) ended.has_run.stands

    -- it has the nodes of its shares
    same_nodes : (division_in cluster).nodes ≡ (division_of way shares).nodes
    same_nodes = ap (λ (run : Run Item State Shown). run.division.nodes) same_run

    -- which are those of the graph that they share
    pub nodes_there : (held : List Share) (nodes : ℕ) → shares ≡ held → (division_of way held).nodes ≡ nodes → (division_in cluster).nodes ≡ nodes
    nodes_there held nodes same there = same_nodes ∙ ap (λ (s : List Share). (division_of way s).nodes) same ∙ there

    -- its answers are those at last
    pub at_last : (held : List Share) (count nodes : ℕ) (answers : List (Option ℕ)) (old new : Option ℕ) → shares ≡ held → budget ≡ nodes + 1 → count ≡ nodes
        → answers ≡ map (λ v. (steps cluster.program).answer (state_of (run_on cluster.program cluster.way (shares_of cluster)) cluster.round v)) (range_with_len 0 count)
        → new ≡ option_map (asked_after (asks (division_of way shares) finished.rounds)) old
        → AnswersAtLast (run_on program way held) nodes answers old new
    at_last held count nodes answers old new same allowed counted told asked =
        subst (λ (s : List Share). AnswersAtLast (run_on program way s) nodes answers old new) same
        (record {
          rounds = cluster.round;
          takes = ended.takes;
          within = omega (arith, ended.within, allowed);
          told =
              told ∙ ap (λ (run : Run Item State Shown). map (λ v. run.steps.answer (state_of run cluster.round v)) (range_with_len 0 count)) same_run
              ∙ ap (λ (n : ℕ). map (λ v. (steps program).answer (state_of (run_on program way shares) cluster.round v)) (range_with_len 0 n)) counted;
          asked = asked ∙ ap (λ n. option_map (asked_after (asks (division_of way shares) n)) old) ended.has_run.rounds;
        })
