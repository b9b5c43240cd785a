-- A cluster from round to round, with what its rounds came to.
use Rattle.std.proofs.Common.{◌≡◌, ℕ, ◌+◌, ◌*◌, ◌<◌, ◌≤◌, List, [], ◌∷◌, ◌++◌, length, sym, ◌∙◌, ap, subst, arith}
use Rattle.std.specs.List.{range_with_len, sum_by}
use Rattle.std.proofs.lemmas.List.Sums.{sum_by_push}
use Rattle.list_laws.proofs.Places.{element_at}
use Rattle.reduce_laws.specs.ReductionLaws.{Reducer, ReductionLaws}
use Rattle.reduce_laws.specs.ProgramLaws.{Steps, ProgramLaws}
use Rattle.graph_model.specs.declared.edge.Way.{Way}
use Rattle.graph_division.specs.Division.{Division}
use Rattle.graph_division.specs.Shares.{Share}
use Rattle.graph_division.specs.Partition.{IsPartition, division_of}
use Rattle.graph_division.proofs.Partitions.{partitions_divide}
use Rattle.address_memo.proofs.Filters.{range-append}
use Rattle.round_packets.specs.Runs.{Run, IsRun}
use Rattle.host_state.specs.Serving.{run_of}
use Rattle.cluster_laws.specs.Tally.{packets_of, bytes_of_round, changed}
use Rattle.round_driver.specs.ClusterState.{ClusterState, StandsNow, StaysItself, shares_of, division_in}
use Rattle.round_driver.specs.declared.tally.Tally.{Tally}
use Rattle.round_driver.proofs.Few.{few_packets}
use Rattle.run_text.specs.Told.{Told, told_by}
use Rattle.run_text.specs.Text.{round_bytes, bytes_sent}
use Rattle.run_engine.specs.declared.finished.Finished.{Finished}
use Rattle.run_engine.specs.Rounds.{Plan, HasCounted, plan_of}

-- a range with one more number
pub range-more : (n : ℕ) → range_with_len 0 (n + 1) ≡ range_with_len 0 n ++ n ∷ []
range-more n =
    let same : 0 + n ≡ n = omega arith in
    range-append 0 n 1 ∙ ap (λ k. range_with_len 0 n ++ k ∷ []) same

-- the hosts of a partition are few
pub few_shares : (shares : List Share) → IsPartition shares → length shares ≤ 64
few_shares shares partition =
    let first = element_at shares 0 (let some = partition.some_host in omega arith) in
    let of = partition.by_host 0 first.0 first.1 in
    let few = of.is_share.few_hosts in
    let all = of.of_hosts in
    omega arith

-- one more product
one_more : (n k : ℕ) → (n + 1) * k ≡ n * k + k
one_more n k = grind arith

product_below : (n k : ℕ) → n < 4294967296 → k ≤ 8192 → n * k ≤ 4294967296 * 8192
product_below n k few small = grind arith

-- the bytes of one more round
bytes_more : (division : Division) (told : Told) (rounds : ℕ) → bytes_sent division told (rounds + 1) ≡ bytes_sent division told rounds + round_bytes division told rounds
bytes_more division told rounds = ap (sum_by (round_bytes division told)) (range-more rounds) ∙ sum_by_push (round_bytes division told) (range_with_len 0 rounds) rounds

-- the run of a plan
abbrev pub run_in : {Program Item State Shown : Type 0} → Reducer Item → (Program → Steps Item State Shown) → (item_size shown_size : ℕ) → Plan Program → Run Item State Shown
run_in reducer steps item_size shown_size plan = run_of reducer (steps plan.program) item_size shown_size (division_of plan.way plan.shares)

-- a plan by its parts
abbrev pub plan_by : {Program : Type 0} → Program → Way → List Share → Plan Program
plan_by program way shares = record { program = program; way = way; shares = shares }

module _ {Program Item State Shown : Type 0} (item_bytes : Item → List ℕ) (shown_bytes : Shown → List ℕ) (reducer : Reducer Item) (steps : Program → Steps Item State Shown) (item_size shown_size : ℕ) (plan : Plan Program) where
  -- the run
  abbrev the_run : Run Item State Shown
  the_run = run_in reducer steps item_size shown_size plan

  -- the plan's run is a run
  pub is_run : {IsItem : Item → Type 0} {IsShown : Shown → Type 0} {IsState : State → Type 0} → ReductionLaws IsItem reducer → ((program : Program) → ProgramLaws IsItem IsShown IsState reducer (steps program)) → IsPartition plan.shares → IsRun IsItem IsShown IsState the_run
  is_run reduction laws partition = record { divided = partitions_divide plan.way plan.shares partition; reduction = reduction; program = laws plan.program }

  module _ (cluster : ClusterState Program Item State Shown) (finished : Finished) (is : HasCounted item_bytes shown_bytes the_run plan cluster finished) where
    -- what the cluster holds is what the plan says
    pub same_division : division_in cluster ≡ division_of plan.way plan.shares
    same_division = ap (λ way. division_of way (shares_of cluster)) is.has_run.same_way ∙ ap (division_of plan.way) is.has_run.same_shares

    same_run : run_of reducer (steps cluster.program) item_size shown_size (division_in cluster) ≡ the_run
    same_run = ap (λ program. run_of reducer (steps program) item_size shown_size (division_in cluster)) is.has_run.same_program ∙ ap (run_of reducer (steps plan.program) item_size shown_size) same_division

    pub same_plan : plan_of cluster ≡ plan
    same_plan =
        ap (λ program. plan_by program cluster.way (shares_of cluster)) is.has_run.same_program
        ∙ ap (λ way. plan_by plan.program way (shares_of cluster)) is.has_run.same_way
        ∙ ap (plan_by plan.program plan.way) is.has_run.same_shares

    -- what is told of that plan is told of this one
    pub told_of_plan : (Told : Plan Program → Type 0) → Told (plan_of cluster) → Told plan
    told_of_plan Told there = subst Told same_plan there

    -- it may run its next round
    pub may_go : StandsNow reducer (steps cluster.program) item_size shown_size item_bytes shown_bytes cluster
    may_go = subst (λ program. StandsNow reducer (steps program) item_size shown_size item_bytes shown_bytes cluster) (sym is.has_run.same_program) is.has_run.stands

    -- so many packets fit the count
    pub packets_fit : IsPartition plan.shares → cluster.round < 4294967296 → (packets : ℕ) → packets ≡ packets_of (division_in cluster) → finished.packets + packets < 18446744073709551616
    packets_fit partition early packets are =
        let few = few_packets (division_of plan.way plan.shares) (few_shares plan.shares partition) in
        let same = are ∙ ap packets_of same_division in
        let so_far = is.has_run.packets in
        let all = product_below cluster.round (packets_of (division_of plan.way plan.shares)) early few in
        omega arith

    module _ (new : ClusterState Program Item State Shown) (tally : Tally) (stays : StaysItself cluster new) (round : new.round ≡ cluster.round + 1) (stands : StandsNow reducer (steps cluster.program) item_size shown_size item_bytes shown_bytes new)
        (packets : tally.packets ≡ packets_of (division_in cluster)) (bytes : tally.bytes ≡ bytes_of_round item_bytes shown_bytes (run_of reducer (steps cluster.program) item_size shown_size (division_in cluster)) cluster.round) (fit : tally.bytes < 18446744073709551616) where
      -- it has run one more round
      pub one_more_round : (more : ℕ) → more ≡ tally.bytes → HasCounted item_bytes shown_bytes the_run plan new (record { rounds = finished.rounds + 1; packets = finished.packets + tally.packets; bytes = finished.bytes + more })
      one_more_round more same = record {
        has_run = record {
          same_shares = stays.same_shares ∙ is.has_run.same_shares;
          same_program = stays.same_program ∙ is.has_run.same_program;
          same_way = stays.same_way ∙ is.has_run.same_way;
          stands = subst (λ program. StandsNow reducer (steps program) item_size shown_size item_bytes shown_bytes new) is.has_run.same_program stands;
          rounds = ap (λ n. n + 1) is.has_run.rounds ∙ sym round;
          packets =
              ap (λ n. finished.packets + n) (packets ∙ ap packets_of same_division)
              ∙ ap (λ n. n + packets_of (division_of plan.way plan.shares)) is.has_run.packets
              ∙ sym (ap (λ n. n * packets_of (division_of plan.way plan.shares)) round ∙ one_more cluster.round (packets_of (division_of plan.way plan.shares)));
          bytes =
              ap (λ n. finished.bytes + n) (same ∙ bytes ∙ ap (λ run. bytes_of_round item_bytes shown_bytes run cluster.round) same_run)
              ∙ ap (λ n. n + bytes_of_round item_bytes shown_bytes the_run cluster.round) is.has_run.bytes
              ∙ sym (ap (bytes_sent (division_of plan.way plan.shares) (told_by item_bytes shown_bytes the_run)) round ∙ bytes_more (division_of plan.way plan.shares) (told_by item_bytes shown_bytes the_run) cluster.round);
        };
        few = let few = is.few in omega arith;
      }

      -- what changed in it
      pub changed_there : tally.changed ≡ changed (run_of reducer (steps cluster.program) item_size shown_size (division_in cluster)) cluster.round → tally.changed ≡ changed the_run cluster.round
      changed_there are = are ∙ ap (λ run. changed run cluster.round) same_run
