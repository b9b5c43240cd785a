use Rattle.std.proofs.Common.{◌≡◌, ◌+◌, ◌-◌, ◌*◌, ℕ, refl, sym, ap, subst, ◌∙◌, arith}
use Rattle.std.specs.Prelude.{option_map}
use Rattle.list_laws.proofs.Places.{element_at}
use Rattle.memo_exchange.specs.Asks.{asked_after}
use Rattle.memo_exchange.proofs.Asking.{asked_once, asked_never}
use Rattle.cluster_laws.specs.Steps.{StepsInTurn}
use Rattle.cluster_laws.specs.Tally.{packets_of}
use Rattle.cluster_laws.proofs.Ending.{no_steps}
use Rattle.host_state.specs.Serving.{run_of}
use Rattle.round_driver.specs.Underway.{seen_as}
use Rattle.round_driver.proofs.Moving.{as_many_specs}
use Rattle.round_driver.proofs.Turning.{one_more_step, some_choice, is_over}
use Rattle.round_driver.proofs.turn.run_events.Goals as goal

pub take_turn-requires : goal.take_turn-requires
take_turn-requires g c = λ κs outlives.
    let now = c.loop-turn.invariant in
    let spare = (element_at c.loop-turn.hosts 0 (let some = now.underway.servers.some_host in omega arith)).0.view in
    let hosts_are = c.requires.1.1.1.1.1.1.0.servers.as_many in
    let channels_are = as_many_specs c.requires.1.1.1.1.1.1.0 in
    let count = c.count.ensures.count in
    let same = c.from.ensures in
    let early = c.loop-turn-test.true in (
      outlives.0,
      (
        outlives.1.0,
        (
          outlives.1.1.0,
          (
            outlives.1.1.1.0,
            (
              outlives.1.1.1.1.0,
              (
                outlives.1.1.1.1.1,
                (
                  now.underway,
                  some_choice now.underway spare (seen_as g.moment.division spare c.args.hosts.now c.args.channels.now) (c.requires.1.1.1.1.1.1.1 spare) c.loop-turn._turn (now.steps spare) (omega arith),
                ),
              ),
            ),
          ),
        ),
      ),
    )

pub loop-turn-init : goal.loop-turn-init
loop-turn-init g c =
    let total : ℕ = 2 * g.moment.division.hosts + packets_of g.moment.division in
    let all : total - 0 ≡ total = omega arith in
    record {
      underway = c.requires.1.1.1.1.1.1.0;
      same_lasting = refl;
      steps = λ spare. no_steps g.P.Red.Item.Word.bytes_of g.P.Shown.Word.bytes_of (run_of g.P.Red.Reduction.reducer (g.P.VertexProgram.steps g.moment.program) g.P.Red.Item.Word.WIDTH g.P.Shown.Word.WIDTH g.moment.division) g.moment.rounds (seen_as g.moment.division spare c.args.hosts.now c.args.channels.now);
      asked = ap (λ n. option_map (asked_after n) (g.K.Picker.asked c.args.picker.now)) all;
      begun = refl;
    }

pub loop-turn-preserved : goal.loop-turn-preserved
loop-turn-preserved g c =
    let now = c.loop-turn.invariant in
    let turns = c.take_turn.ensures.turns in
    let total : ℕ = 2 * g.moment.division.hosts + packets_of g.moment.division in
    let hosts_are = c.requires.1.1.1.1.1.1.0.servers.as_many in
    let channels_are = as_many_specs c.requires.1.1.1.1.1.1.0 in
    let count = c.count.ensures.count in
    let same = c.from.ensures in
    let early = c.loop-turn-test.true in
    record {
      underway = turns.underway;
      same_lasting = turns.same_lasting ∙ now.same_lasting;
      steps = λ spare.
          one_more_step g.P.Red.Item.Word.bytes_of g.P.Shown.Word.bytes_of (run_of g.P.Red.Reduction.reducer (g.P.VertexProgram.steps g.moment.program) g.P.Red.Item.Word.WIDTH g.P.Shown.Word.WIDTH g.moment.division) g.moment.rounds c.loop-turn._turn
          (seen_as g.moment.division spare c.args.hosts.now c.args.channels.now) (seen_as g.moment.division spare c.loop-turn.hosts c.loop-turn.channels) (seen_as g.moment.division spare c.take_turn.new.hosts c.take_turn.new.channels)
          (turns.step spare).0 (now.steps spare) (turns.step spare).1;
      asked = asked_once (total - c.loop-turn._turn) (total - (c.loop-turn._turn + 1)) (g.K.Picker.asked c.loop-turn.picker) (g.K.Picker.asked c.take_turn.new.picker) c.take_turn.ensures.asked (omega arith) ∙ now.asked;
      begun = c.take_turn.ensures.begun ∙ now.begun;
    }

pub returns : goal.returns
returns g c =
    let now = c.loop-turn.invariant in
    let total : ℕ = 2 * g.moment.division.hosts + packets_of g.moment.division in
    let hosts_are = c.requires.1.1.1.1.1.1.0.servers.as_many in
    let channels_are = as_many_specs c.requires.1.1.1.1.1.1.0 in
    let count = c.count.ensures.count in
    let same = c.from.ensures in
    let late = c.loop-turn-test.false in
    let end = c.loop-turn.auto._turn-end in
    let all : c.loop-turn._turn ≡ 2 * g.moment.division.hosts + packets_of g.moment.division = omega arith in
    let none : total - c.loop-turn._turn ≡ 0 = omega arith in
    record {
      underway = now.underway;
      lasting = now.same_lasting;
      steps = λ spare. subst (λ n. StepsInTurn g.P.Red.Item.Word.bytes_of g.P.Shown.Word.bytes_of (run_of g.P.Red.Reduction.reducer (g.P.VertexProgram.steps g.moment.program) g.P.Red.Item.Word.WIDTH g.P.Shown.Word.WIDTH g.moment.division) g.moment.rounds n
          (seen_as g.moment.division spare c.args.hosts.now c.args.channels.now) (seen_as g.moment.division spare c.loop-turn.hosts c.loop-turn.channels)) all (now.steps spare);
      over = λ spare. is_over now.underway spare (seen_as g.moment.division spare c.args.hosts.now c.args.channels.now) (c.requires.1.1.1.1.1.1.1 spare) c.loop-turn._turn (now.steps spare) all;
      asked = sym (asked_never (g.K.Picker.asked c.loop-turn.picker)) ∙ ap (λ n. option_map (asked_after n) (g.K.Picker.asked c.loop-turn.picker)) (sym none) ∙ now.asked;
      begun = now.begun;
    }
