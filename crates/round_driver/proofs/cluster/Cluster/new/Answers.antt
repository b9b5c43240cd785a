use Rattle.std.proofs.Common.{◌≡◌, List, length, All, sym, ap, subst, arith}
use Rattle.address_memo.specs.Memos.{Memos}
use Rattle.round_driver.specs.ChannelSpecs.{IsMemoOf}
use Rattle.round_driver.proofs.Making.{few_hosts, memos_are, are_specs, made, stands}
use Rattle.round_driver.proofs.cluster.Cluster.new.Goals as goal

pub channel_specs-requires-clause-few : goal.channel_specs-requires-clause-few
channel_specs-requires-clause-few g c =
    let few = few_hosts c.args.way c.args.graphs.items c.args.memos.items c.requires.partition c.requires.agree in
    let long = c.requires.agree.each in
    let same = ap (λ (l : List Memos). length l) c.deref.ensures.value in
    omega arith

pub channel_specs-requires-clause-memos : goal.channel_specs-requires-clause-memos
channel_specs-requires-clause-memos g c =
    subst (λ (l : List Memos). All (IsMemoOf (length l)) l) (sym c.deref.ensures.value) (memos_are c.args.way c.args.graphs.items c.args.memos.items c.requires.partition c.requires.agree)

pub new-requires-clause-rise : goal.new-requires-clause-rise
new-requires-clause-rise g c =
    let asked = are_specs c.args.way c.args.graphs.items c.args.memos.items c.requires.partition c.requires.agree g.P.Red.Item.Word.WIDTH g.P.Shown.Word.WIDTH c.deref.result.now c.in_ok-specs.specs.items g.met.P.Red.Item.Word.laws.width_is g.met.P.Shown.Word.laws.width_is c.deref.ensures.value c.in_ok-specs.ensures in
    asked.rise

pub new-requires-clause-few : goal.new-requires-clause-few
new-requires-clause-few g c =
    let asked = are_specs c.args.way c.args.graphs.items c.args.memos.items c.requires.partition c.requires.agree g.P.Red.Item.Word.WIDTH g.P.Shown.Word.WIDTH c.deref.result.now c.in_ok-specs.specs.items g.met.P.Red.Item.Word.laws.width_is g.met.P.Shown.Word.laws.width_is c.deref.ensures.value c.in_ok-specs.ensures in
    let few = asked.few in
    let many : c.in_ok-specs.specs.len ≡ length c.in_ok-specs.specs.items = c.in_ok-specs.specs.ok.0 in
    omega arith

pub new-requires-clause-room : goal.new-requires-clause-room
new-requires-clause-room g c =
    let asked = are_specs c.args.way c.args.graphs.items c.args.memos.items c.requires.partition c.requires.agree g.P.Red.Item.Word.WIDTH g.P.Shown.Word.WIDTH c.deref.result.now c.in_ok-specs.specs.items g.met.P.Red.Item.Word.laws.width_is g.met.P.Shown.Word.laws.width_is c.deref.ensures.value c.in_ok-specs.ensures in
    asked.room

pub invariant_of-result : goal.invariant_of-result
invariant_of-result g c =
    let asked = are_specs c.args.way c.args.graphs.items c.args.memos.items c.requires.partition c.requires.agree g.P.Red.Item.Word.WIDTH g.P.Shown.Word.WIDTH c.deref.result.now c.in_ok-specs.specs.items g.met.P.Red.Item.Word.laws.width_is g.met.P.Shown.Word.laws.width_is c.deref.ensures.value c.in_ok-specs.ensures in
    made c.args.way c.args.graphs.items c.args.memos.items c.requires.partition c.requires.agree g.P.Red.Reduction.reducer (g.P.VertexProgram.steps c.args.program) g.P.Red.Item.Word.WIDTH g.P.Shown.Word.WIDTH c.args.program c.in_ok-hosts.hosts.items
    c.in_ok-hosts.ensures.graphs c.in_ok-hosts.ensures.memos c.in_ok-hosts.ensures.new c.in_ok-specs.specs.items asked c.in_ok-channels.channels c.in_ok-channels.ensures 0

pub returns-clause-stands : goal.returns-clause-stands
returns-clause-stands g c =
    let asked = are_specs c.args.way c.args.graphs.items c.args.memos.items c.requires.partition c.requires.agree g.P.Red.Item.Word.WIDTH g.P.Shown.Word.WIDTH c.deref.result.now c.in_ok-specs.specs.items g.met.P.Red.Item.Word.laws.width_is g.met.P.Shown.Word.laws.width_is c.deref.ensures.value c.in_ok-specs.ensures in
    stands c.args.way c.args.graphs.items c.args.memos.items c.requires.partition c.requires.agree g.P.Red.Reduction.reducer (g.P.VertexProgram.steps c.args.program) g.P.Red.Item.Word.WIDTH g.P.Shown.Word.WIDTH c.args.program c.in_ok-hosts.hosts.items
    c.in_ok-hosts.ensures.graphs c.in_ok-hosts.ensures.memos c.in_ok-hosts.ensures.new c.in_ok-specs.specs.items asked c.in_ok-channels.channels c.in_ok-channels.ensures
    g.P.Red.Item.Word.bytes_of g.P.Shown.Word.bytes_of g.met.P.Red.Reduction.laws (g.met.P.VertexProgram.laws c.args.program)
