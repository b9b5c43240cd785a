use Rattle.std.proofs.Common.{ℕ, ◌-◌, List, length, arith, ap, sym, subst, refl}
use Rattle.std.specs.List.{All}
use Rattle.std.proofs.lemmas.List.Elements.{All-weaker}
use Rattle.graph_model.specs.Graph.{IsWithin}
use Rattle.graph_division.specs.Shares.{Share, nodes_of}
use Rattle.cusp_rules.specs.Assignment.{Assignment}
use Rattle.proxy_graph.specs.Drafts.{AreProxies}
use Rattle.proxy_graph.specs.Numbering.{AreMarks, AreNumbered, table_of}
use Rattle.proxy_graph.proofs.NumberingSteps.{numbers_are}
use Rattle.proxy_graph.proofs.Assembled.{share_with, numbered_is, vertices_are}
use Rattle.proxy_graph.proofs.draft.Draft.in_order.Goals as goal
use Rattle.proxy_graph.proofs.draft.Draft.in_order.Goals.{In_ok-mirrors}

-- the share of these edges
abbrev share : In_ok-mirrors → Share
share c = share_with c.args.host c.args.masters.now.hosts c.args.masters.now.masters c.args.edges.now

-- how many masters are here
abbrev count : In_ok-mirrors → ℕ
count c = c.range-first.result.1 - c.range-first.result.0

-- the proxies of that share are numbered
ready : (c : In_ok-mirrors) → AreProxies (share c) c.range-first.result.0 (count c) c.args.marks (table_of c.in_ok-numbering.numbering) c.in_ok-mirrors.mirrors.items
ready c =
    let first = c.range-first.result.0 in
    let marks = c.args.marks in
    let table = table_of c.in_ok-numbering.numbering in
    let marked = subst (λ (n : ℕ). AreMarks n (share c).edges marks) c.requires.nodes c.requires.marks in
    record {
      within = subst (λ (n : ℕ). All (IsWithin n) (share c).edges) c.requires.nodes c.requires.within;
      vertices = vertices_are first c.range-first.result.1 (share c).masters (share c).host c.range-first.ensures.ordered c.range-first.ensures.vertices;
      row = omega (arith, c.range-first.ensures.ordered, c.range-first.ensures.within);
      marked = marked;
      numbered = numbered_is first (count c) (nodes_of (share c)) (share c).edges marks table c.in_ok-mirrors.mirrors.items marked (
          subst (λ (mirrors : List ℕ). AreNumbered first (count c) marks (length marks) table mirrors) (sym c.in_ok-mirrors.ensures) (numbers_are first (count c) marks c.in_ok-numbering.numbering c.in_ok-numbering.ensures));
    }

pub new-requires-2-clause-within : goal.new-requires-2-clause-within
new-requires-2-clause-within c =
    All-weaker (IsWithin c.args.nodes) (IsWithin (length c.in_ok-numbering.numbering.mirrored)) (λ edge ends. omega (arith, ends, c.in_ok-numbering.ensures.long, c.requires.marks.long)) c.args.edges.now c.requires.within

pub returns : goal.returns
returns c =
    let at = (goal.at.returns c).In_ok-mirrors in
    let facts = c.in_ok-masters.ensures.facts in
    let columns = c.in_ok-columns.ensures in
    record {
      is_share = record {
        is_host = c.requires.host;
        few_hosts = facts.hosts_fit.few_hosts;
        nodes_fit = omega (arith, c.requires.nodes, c.requires.few_nodes);
        edges_fit = c.requires.few_edges;
        on_hosts = facts.on_hosts;
        contiguous = facts.contiguous;
        within = (ready at).within;
        weighed = columns.weighed;
        by_source = c.requires.by_source;
      };
      host = refl;
      hosts = ap (λ (a : Assignment). a.hosts) c.in_ok-masters.ensures.same;
      masters = ap (λ (a : Assignment). a.masters) c.in_ok-masters.ensures.same;
      nodes = c.requires.nodes;
      marks = c.args.marks;
      table = table_of c.in_ok-numbering.numbering;
      proxies = ready at;
      tails = columns.tails;
      heads = columns.heads;
      weights = columns.weights;
    }
