use Rattle.std.proofs.Common.{◌∙◌, length, map, refl, ap, arith}
use Rattle.std.specs.List.{sum_by, range_with_len}
use Rattle.packet_table.specs.Table.{Table, payload_of}
use Rattle.round_driver.proofs.Moving.{as_many_specs}
use Rattle.round_driver.proofs.Rounds.{all_ready, few_woken, woken_changed, has_packet, all_bytes, ended}
use Rattle.round_driver.proofs.turn.run_round.Goals as goal

pub bring_events-requires : goal.bring_events-requires
bring_events-requires g c = λ κs outlives.
    (outlives.0, (outlives.1.0, (outlives.1.1.0, (outlives.1.1.1.0, (outlives.1.1.1.1.0, (outlives.1.1.1.1.1, (refl, c.requires.stands)))))))

pub close_round-changed-requires : goal.close_round-changed-requires
close_round-changed-requires g c =
    let come = c.bring_events.ensures in
    record {
      round = let same = come.round in let fits = c.requires.round in omega arith;
      ready = all_ready come.underway come.over;
      few = few_woken come.underway come.over;
    }

pub returns : goal.returns
returns g c =
    let come = c.bring_events.ensures in
    let now = ended g.P.Red.Reduction.reducer (g.P.VertexProgram.steps c.args.cluster.now.program) g.P.Red.Item.Word.WIDTH g.P.Shown.Word.WIDTH c.args.cluster.now.program c.args.cluster.now c.bring_events.new.cluster come.stays come.underway come.over come.round
    c.close_round-changed.new.cluster c.close_round-changed.ensures.closed in
    let table = c.channels-channels.ensures.channels ∙ now.same_table in
    record {
      stays = now.new_stays;
      round = now.new_round;
      stands = now.new_stands;
      payloads = λ number within. ap (λ (t : Table). payload_of t number) now.same_table ∙ has_packet come.underway come.over number within;
      changed = c.close_round-changed.ensures.woken ∙ woken_changed come.underway come.over;
      packets = c.from.ensures ∙ c.count.ensures.count ∙ ap (λ (t : Table). length t.specs) table ∙ as_many_specs come.underway;
      bytes = c.count_bytes.ensures ∙ ap (λ (t : Table). sum_by length (map (payload_of t) (range_with_len 0 (length t.specs)))) table ∙ all_bytes come.underway come.over;
      asked = come.asked;
      begun = come.begun;
    }
