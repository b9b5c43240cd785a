use Rattle.std.proofs.Common.{◌≡◌, ◌+◌, suc, List, ◌++◌, length, take, slice_get, Some, sym, ap, ◌∙◌, arith, append_assoc}
use Rattle.std.proofs.lemmas.Option.{slice_get-get_or}
use Rattle.list_laws.proofs.Places.{All-at}
use Rattle.packet_table.specs.declared.channel_spec.ChannelSpec.{ChannelSpec}
use Rattle.round_driver.specs.ChannelSpecs.{IsMemoOf, specs_below, specs_of_leg}
use Rattle.round_driver.proofs.Rows.{leg_more}
use Rattle.round_driver.proofs.channel_specs.add_leg.Goals as goal

pub loop-from-preserved : goal.loop-from-preserved
loop-from-preserved c =
    let memos = c.args.memos.now in
    let leg = c.args.leg in
    let size = c.args.size in
    let from = c.loop-from.from in
    let memo = c.index-memos-from.result in
    let old = c.args.specs.now.items in
    let at : slice_get memos from ≡ Some memo = slice_get-get_or memos from memo c.loop-from-test.true ∙ ap (λ m. Some m) (sym c.index-memos-from.is) in
    let is = All-at (IsMemoOf (length memos)) memos from memo c.requires.memos at in
    let place : from ≡ 0 + from = omega arith in
    let next : suc from ≡ from + 1 = omega arith in
    c.in_ok-add_host.ensures
    ∙ ap (λ (l : List ChannelSpec). l ++ specs_below leg size from memo (length memos)) c.loop-from.invariant
    ∙ append_assoc old (specs_of_leg leg size 0 (take from memos)) (specs_below leg size from memo (length memos))
    ∙ ap (λ (l : List ChannelSpec). old ++ l)
    (ap (λ n. specs_of_leg leg size 0 (take from memos) ++ specs_below leg size from memo n) (sym is.of_hosts)
    ∙ ap (λ n. specs_of_leg leg size 0 (take from memos) ++ specs_below leg size n memo memo.hosts) place
    ∙ sym (leg_more leg size 0 memos from memo at)
    ∙ ap (λ n. specs_of_leg leg size 0 (take n memos)) next)
