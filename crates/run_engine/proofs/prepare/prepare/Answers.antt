use Rattle.std.proofs.Common.{◌∙◌, ap}
use Rattle.std.specs.Prelude.{option_map}
use Rattle.graph_division.specs.Partition.{division_of}
use Rattle.graph_division.specs.Shares.{Share}
use Rattle.std.proofs.Common.{List}
use Rattle.memo_exchange.specs.Asks.{asked_after, exchange_asks}
use Rattle.run_engine.proofs.Told.{ok_anyway}
use Rattle.run_engine.proofs.prepare.prepare.Goals as goal

pub returns-clause-asked : goal.returns-clause-asked
returns-clause-asked g c =
    ok_anyway c.new.result
    (c.in_ok-memos.ensures.asked ∙ ap (λ (shares : List Share). option_map (asked_after (exchange_asks (division_of c.args.way shares))) (g.K.Picker.asked c.args.picker.now)) c.deref.ensures.value)
