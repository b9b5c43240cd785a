use Rattle.std.proofs.Common.{◌≡◌, Option, IsSomeAnd, refl, sym, ap, subst, ◌∙◌}
use Rattle.list_laws.specs.Members.{members}
use Rattle.list_laws.proofs.Places.{slice_get_once}
use Rattle.packet_table.specs.declared.channel_spec.ChannelSpec.{ChannelSpec}
use Rattle.packet_table.specs.declared.channel_spec.Leg.TheVariants.{Reduce, Spread}
use Rattle.packet_table.specs.Order.{Joins}
use Rattle.packet_table.specs.Table.{taken}
use Rattle.round_driver.proofs.Delivering.{same_turns, receiver_within}
use Rattle.round_driver.proofs.events.deliver_at.Goals as goal
use Rattle.round_driver.proofs.events.deliver_at.Goals.{in-Reduce, in-Spread}

pub give_reduce-requires : goal.give_reduce-requires
give_reduce-requires g c = λ κs outlives.
    let is = subst (λ (o : Option ChannelSpec). IsSomeAnd o (Joins Reduce c.spec-spec.result.from c.from-to.result)) (sym c.spec-spec.ensures) (record { of_leg = c.in-Reduce.is; of_sender = refl; of_receiver = sym c.from-to.ensures }) in (
      outlives.0,
      (
        outlives.1.0,
        (
          outlives.1.1.0,
          (
            outlives.1.1.1.0,
            (
              outlives.1.1.1.1,
              (
                c.requires.1.1.1.1.1.0,
                (
                  c.flying-id.ensures.known,
                  (
                    is,
                    (
                      receiver_within c.requires.1.1.1.1.1.0 c.flying-id.result c.flying-id.ensures.known c.flying-id.ensures.flies c.spec-spec.result.from c.from-to.result Reduce is,
                      c.flying-id.ensures.flies,
                    ),
                  ),
                ),
              ),
            ),
          ),
        ),
      ),
    )

pub give_broadcast-requires : goal.give_broadcast-requires
give_broadcast-requires g c = λ κs outlives.
    let is = subst (λ (o : Option ChannelSpec). IsSomeAnd o (Joins Spread c.spec-spec.result.from c.from-to.result)) (sym c.spec-spec.ensures) (record { of_leg = c.in-Spread.is; of_sender = refl; of_receiver = sym c.from-to.ensures }) in (
      outlives.0,
      (
        outlives.1.0,
        (
          outlives.1.1.0,
          (
            outlives.1.1.1.0,
            (
              outlives.1.1.1.1,
              (
                c.requires.1.1.1.1.1.0,
                (
                  c.flying-id.ensures.known,
                  (
                    is,
                    (
                      receiver_within c.requires.1.1.1.1.1.0 c.flying-id.result c.flying-id.ensures.known c.flying-id.ensures.flies c.spec-spec.result.from c.from-to.result Spread is,
                      c.flying-id.ensures.flies,
                    ),
                  ),
                ),
              ),
            ),
          ),
        ),
      ),
    )

pub returns : goal.returns
returns g c =
    let same : c.take.result ≡ c.flying-id.result = slice_get_once (members c.args.channels.now.flying) c.args.place c.take.result c.flying-id.result c.take.ensures.channel c.flying-id.ensures.channel in
    let left = c.take.ensures.taken ∙ ap (taken c.args.channels.now) same in
    elim c.match-spec.branch [
      | in-Reduce w ↦ same_turns w.give_reduce.new.hosts c.match-spec.hosts (taken c.args.channels.now c.flying-id.result) c.take.new.self w.hosts-is left w.give_reduce.ensures
      | in-Spread w ↦ same_turns w.give_broadcast.new.hosts c.match-spec.hosts (taken c.args.channels.now c.flying-id.result) c.take.new.self w.hosts-is left w.give_broadcast.ensures
    ]
