use Rattle.std.proofs.Common.{◌≡◌, [], ◌∷◌, ◌++◌, length, map, All, sym, ap, subst, ◌∙◌}
use Rattle.std.proofs.lemmas.List.{map-append}
use Rattle.std.proofs.lemmas.List.Elements.{All-push}
use Rattle.round_driver.specs.Hosting.{IsNewHost}
use Rattle.std.proofs.lemmas.Iterator.{YieldsList-from_zip}
use Rattle.std.proofs.lemmas.Iterator.Adapters.{YieldsList-from_vec}
use Rattle.std.proofs.lemmas.Iterator.Consumers.{YieldsList-turn, YieldsList-end}
use Rattle.round_driver.proofs.Pairs.{pair_at, firsts_are, seconds_are}
use Rattle.round_driver.proofs.hosting.make_hosts.Goals as goal

pub new-requires : goal.new-requires
new-requires g c =
    let shares = c.args.graphs.items in
    let memos = c.args.memos.items in
    let many : c.args.graphs.len ≡ length shares = c.args.graphs.ok.0 in
    let more : c.args.memos.len ≡ length memos = c.args.memos.ok.0 in
    let turn = YieldsList-turn {s = c.into_iter-graph-iterator.result} (YieldsList-from_zip (YieldsList-from_vec shares (cc) (cc)) (YieldsList-from_vec memos (cc) (cc))) c.loop-graph.yielded c.loop-graph.graph-iterator c.loop-graph.yielded_by c.next.result c.next.new.self (c.in-Some.graph, c.in-Some.memo) c.in-Some.is c.next.ensures.steps in
    let there = pair_at shares memos c.requires.each (length c.loop-graph.yielded) c.in-Some.graph c.in-Some.memo turn.0 turn.1 in
    c.requires.fit (length c.loop-graph.yielded) c.in-Some.graph c.in-Some.memo there.0 there.1

pub returns-clause-graphs : goal.returns-clause-graphs
returns-clause-graphs g c =
    let shares = c.args.graphs.items in
    let memos = c.args.memos.items in
    let many : c.args.graphs.len ≡ length shares = c.args.graphs.ok.0 in
    let more : c.args.memos.len ≡ length memos = c.args.memos.ok.0 in
    let end = YieldsList-end {s = c.into_iter-graph-iterator.result} (YieldsList-from_zip (YieldsList-from_vec shares (cc) (cc)) (YieldsList-from_vec memos (cc) (cc))) c.loop-graph.yielded c.loop-graph.graph-iterator c.loop-graph.yielded_by c.next.result c.next.new.self c.in-None.is c.next.ensures.steps in
    c.loop-graph.invariant.graphs ∙ firsts_are shares memos c.requires.each c.loop-graph.yielded end.0

pub returns-clause-memos : goal.returns-clause-memos
returns-clause-memos g c =
    let shares = c.args.graphs.items in
    let memos = c.args.memos.items in
    let many : c.args.graphs.len ≡ length shares = c.args.graphs.ok.0 in
    let more : c.args.memos.len ≡ length memos = c.args.memos.ok.0 in
    let end = YieldsList-end {s = c.into_iter-graph-iterator.result} (YieldsList-from_zip (YieldsList-from_vec shares (cc) (cc)) (YieldsList-from_vec memos (cc) (cc))) c.loop-graph.yielded c.loop-graph.graph-iterator c.loop-graph.yielded_by c.next.result c.next.new.self c.in-None.is c.next.ensures.steps in
    c.loop-graph.invariant.memos ∙ seconds_are shares memos c.requires.each c.loop-graph.yielded end.0

pub loop-graph-preserved : goal.loop-graph-preserved
loop-graph-preserved g c =
    let hosts = c.loop-graph.hosts.items in
    let host = c.in_ok-host.host in
    let pairs = c.loop-graph.yielded in
    record {
      can = c.loop-graph.invariant.can;
      finite = c.loop-graph.invariant.finite;
      graphs = ap (map (λ host. host.graph)) c.in_ok-push.ensures.items ∙ map-append (λ host. host.graph) hosts (host ∷ [])
          ∙ ap (λ shares. shares ++ host.graph ∷ []) c.loop-graph.invariant.graphs ∙ ap (λ share. map (λ pair. pair.0) pairs ++ share ∷ []) c.in_ok-host.ensures.graph
          ∙ sym (map-append (λ pair. pair.0) pairs ((c.in-Some.graph, c.in-Some.memo) ∷ []));
      memos = ap (map (λ host. host.memo)) c.in_ok-push.ensures.items ∙ map-append (λ host. host.memo) hosts (host ∷ [])
          ∙ ap (λ memos. memos ++ host.memo ∷ []) c.loop-graph.invariant.memos ∙ ap (λ memo. map (λ pair. pair.1) pairs ++ memo ∷ []) c.in_ok-host.ensures.memo
          ∙ sym (map-append (λ pair. pair.1) pairs ((c.in-Some.graph, c.in-Some.memo) ∷ []));
      new = subst (All (IsNewHost g.P.Red.Reduction.reducer (g.P.VertexProgram.steps c.args.program) g.P.Red.Item.Word.WIDTH g.P.Shown.Word.WIDTH c.args.program c.args.way)) (sym c.in_ok-push.ensures.items)
          (All-push (IsNewHost g.P.Red.Reduction.reducer (g.P.VertexProgram.steps c.args.program) g.P.Red.Item.Word.WIDTH g.P.Shown.Word.WIDTH c.args.program c.args.way) hosts host c.loop-graph.invariant.new
          (record {
            is_host_of = record { is_host = c.in_ok-host.ensures.facts; runs = c.in_ok-host.ensures.program; follows = c.in_ok-host.ensures.way };
            is_fresh = c.in_ok-host.ensures.serves;
          }));
    }
