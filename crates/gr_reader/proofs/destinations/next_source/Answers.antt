use Rattle.gr_reader.proofs.CursorLaws.{cursor_within, cursor_next}
use Rattle.gr_reader.proofs.destinations.next_source.Goals as goal

pub returns-clause-source : goal.returns-clause-source
returns-clause-source c =
    let within = cursor_within c.args.ends.now c.loop-source.source c.args.edge c.loop-source.invariant c.requires.more in
    (cursor_next c.args.ends.now c.loop-source.source c.args.edge c.loop-source.invariant within c.loop-source-test.false).0

pub returns-clause-cursor : goal.returns-clause-cursor
returns-clause-cursor c =
    let within = cursor_within c.args.ends.now c.loop-source.source c.args.edge c.loop-source.invariant c.requires.more in
    (cursor_next c.args.ends.now c.loop-source.source c.args.edge c.loop-source.invariant within c.loop-source-test.false).1
