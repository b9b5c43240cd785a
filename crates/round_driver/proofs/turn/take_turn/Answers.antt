use Rattle.std.proofs.Common.{arith}
use Rattle.round_driver.specs.Choices.{may_do}
use Rattle.round_driver.specs.declared.choosing.Doing.TheVariants.{Compute, Spread}
use Rattle.round_driver.proofs.Few.{few_flying, few_who_may}
use Rattle.round_driver.proofs.Counted.{found_passes}
use Rattle.round_driver.proofs.turn.take_turn.Goals as goal

pub overflow_add-computing : goal.overflow_add-computing
overflow_add-computing g c =
    let first = few_who_may c.requires.1.1.1.1.1.1.0 Compute in
    let second = few_who_may c.requires.1.1.1.1.1.1.0 Spread in
    let computing = c.count_who_may-computing.ensures in
    let spreading = c.count_who_may-spreading.ensures in
    omega arith

pub overflow_add-computing-2 : goal.overflow_add-computing-2
overflow_add-computing-2 g c =
    let first = few_who_may c.requires.1.1.1.1.1.1.0 Compute in
    let second = few_who_may c.requires.1.1.1.1.1.1.0 Spread in
    let third = few_flying c.requires.1.1.1.1.1.1.0 in
    let computing = c.count_who_may-computing.ensures in
    let spreading = c.count_who_may-spreading.ensures in
    let flying = c.flying_count-flying.ensures.count in
    omega arith

pub place_by_pick-place-requires-clause-few : goal.place_by_pick-place-requires-clause-few
place_by_pick-place-requires-clause-few g c =
    let first = few_who_may c.requires.1.1.1.1.1.1.0 Compute in
    let second = few_who_may c.requires.1.1.1.1.1.1.0 Spread in
    let third = few_flying c.requires.1.1.1.1.1.1.0 in
    let computing = c.count_who_may-computing.ensures in
    let spreading = c.count_who_may-spreading.ensures in
    let flying = c.flying_count-flying.ensures.count in
    omega arith

pub compute_at-requires : goal.compute_at-requires
compute_at-requires g c = λ κs outlives.
    let found = found_passes (may_do Compute) c.args.hosts.now c.place_by_pick-place.result c.find_who_may-number.result c.find_who_may-number.ensures in
    (outlives.0, (outlives.1.0, (outlives.1.1.0, (outlives.1.1.1.0, (outlives.1.1.1.1, (c.requires.1.1.1.1.1.1.0, (found.0, found.1)))))))

pub spread_at-requires : goal.spread_at-requires
spread_at-requires g c = λ κs outlives.
    let found = found_passes (may_do Spread) c.args.hosts.now _ c.find_who_may-number-then-place-computing-2.result c.find_who_may-number-then-place-computing-2.ensures in
    (outlives.0, (outlives.1.0, (outlives.1.1.0, (outlives.1.1.1.0, (outlives.1.1.1.1, (c.requires.1.1.1.1.1.1.0, (found.0, found.1)))))))

pub overflow_add-computing-else-place-computing : goal.overflow_add-computing-else-place-computing
overflow_add-computing-else-place-computing g c =
    let first = few_who_may c.requires.1.1.1.1.1.1.0 Compute in
    let second = few_who_may c.requires.1.1.1.1.1.1.0 Spread in
    let computing = c.count_who_may-computing.ensures in
    let spreading = c.count_who_may-spreading.ensures in
    omega arith
