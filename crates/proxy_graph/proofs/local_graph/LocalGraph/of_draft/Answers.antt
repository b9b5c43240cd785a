use Rattle.std.proofs.Common.{◌≡◌, ◌∙◌, ℕ, ◌+◌, ◌<◌, ◌≤◌, List, length, map, arith, sym, subst, refl}
use Rattle.std.specs.List.{All}
use Rattle.std.proofs.lemmas.List.Elements.{All-weaker}
use Rattle.graph_model.specs.Graph.{most_nodes}
use Rattle.graph_division.specs.Shares.{Share}
use Rattle.proxy_graph.specs.Drafts.{IsDraftOf}
use Rattle.proxy_graph.specs.Sorting.{AreInArcsOf}
use Rattle.proxy_graph.specs.Sides.{Side, Out, Back, key_of}
use Rattle.proxy_graph.specs.declared.draft.Draft.{Draft}
use Rattle.proxy_graph.specs.declared.local_graph.LocalGraph.TheInside.{Inside}
use Rattle.proxy_graph.proofs.Read.{few_proxies}
use Rattle.proxy_graph.proofs.Rows.{columns_sorted}
use Rattle.proxy_graph.proofs.Assembled.{AreFields, in_arcs_are, proxies_long, keyed, kept_fields, stands}
use Rattle.proxy_graph.proofs.local_graph.LocalGraph.of_draft.Goals as goal
use Rattle.proxy_graph.proofs.local_graph.LocalGraph.of_draft.Goals.{In_ok-out}

-- there are few proxies
few : (share : Share) (draft : Draft) → IsDraftOf share draft → draft.count + length draft.mirrors.items ≤ most_nodes
few share draft is = omega (arith, proxies_long is.proxies, few_proxies share, is.is_share.nodes_fit)

-- so the numbers of the edges' ends are below that, as they are lent
known : (share : Share) (draft : Draft) (is : IsDraftOf share draft) (side : Side) (lent : List ℕ) → lent ≡ map (key_of side is.table) share.edges → All (λ key. key < most_nodes) lent
known share draft is side lent same =
    let proxies = draft.count + length draft.mirrors.items in
    let P : List ℕ → Type 0 = λ column. All (λ key. key < most_nodes) column in
    subst P (sym same) (All-weaker (λ key. key < proxies) (λ key. key < most_nodes) (λ key below. omega (arith, below, few share draft is)) (map (key_of side is.table) share.edges) (keyed is.proxies side))

-- the fields of the graph that is made
abbrev made : In_ok-out → Inside
made c = record {
  host = c.args.draft.host;
  nodes = c.args.draft.nodes;
  masters = c.args.draft.masters;
  first = c.args.draft.first;
  count = c.args.draft.count;
  mirrors = c.args.draft.mirrors;
  out = c.in_ok-out.out;
  back = c.in_ok-back.back;
}

-- the proxies, counted
same_count : (c : In_ok-out) → c.args.draft.count + c.len.result ≡ c.args.draft.count + length c.args.draft.mirrors.items
same_count c = omega (arith, c.len.ensures)

-- they are those of the share
fields : (c : In_ok-out) (share : Share) (is : IsDraftOf share c.args.draft) → AreFields share c.args.draft.first c.args.draft.count is.table c.args.draft.mirrors.items (made c)
fields c share is =
    let proxies = c.args.draft.count + length c.args.draft.mirrors.items in
    let columns = c.args.draft.columns in
    record {
      is_share = is.is_share;
      host = is.host;
      hosts = is.hosts;
      masters = is.masters;
      nodes = is.nodes;
      begins = refl;
      hosted = refl;
      mirrored = refl;
      out = columns_sorted Out proxies is.table share.edges c.in_ok-out.out c.deref-4.result.now columns.heads.items columns.weights.items (keyed is.proxies Out) (c.deref-4.ensures.value ∙ is.tails) is.heads is.weights c.in_ok-out.ensures;
      back =
          let P : ℕ → Type 0 = λ n. AreInArcsOf n c.deref.result.now c.deref-2.result.now c.deref-3.result.now c.in_ok-back.back in
          in_arcs_are proxies is.table share.edges c.in_ok-back.back c.deref.result.now c.deref-2.result.now c.deref-3.result.now (keyed is.proxies Back) (c.deref.ensures.value ∙ is.heads) (c.deref-2.ensures.value ∙ is.tails) (c.deref-3.ensures.value ∙ is.weights) (subst P (same_count c) c.in_ok-back.ensures);
    }

pub overflow_cast-proxies : goal.overflow_cast-proxies
overflow_cast-proxies c = omega (arith, c.len.ensures, few c.requires.share c.args.draft c.requires.of_share)

pub overflow_add-proxies : goal.overflow_add-proxies
overflow_add-proxies c = omega (arith, c.len.ensures, few c.requires.share c.args.draft c.requires.of_share)

pub new-requires-clause-few_proxies : goal.new-requires-clause-few_proxies
new-requires-clause-few_proxies c = omega (arith, c.len.ensures, few c.requires.share c.args.draft c.requires.of_share)

pub new-requires-clause-known : goal.new-requires-clause-known
new-requires-clause-known c =
    let is = c.requires.of_share in
    let column = map (key_of Back is.table) c.requires.share.edges in
    let P : List ℕ → Type 0 = λ some. All (λ key. key < c.args.draft.count + c.len.result) some in
    let counted : c.args.draft.count + length c.args.draft.mirrors.items ≡ c.args.draft.count + c.len.result = omega (arith, c.len.ensures) in
    subst P (sym (c.deref.ensures.value ∙ is.heads)) (subst (λ (n : ℕ). All (λ key. key < n) column) counted (keyed is.proxies Back))

pub by_tail-requires-clause-known : goal.by_tail-requires-clause-known
by_tail-requires-clause-known c =
    let is = c.requires.of_share in
    known c.requires.share c.args.draft is Out c.deref-4.result.now (c.deref-4.ensures.value ∙ is.tails)

pub invariant_of-result : goal.invariant_of-result
invariant_of-result c =
    let is = c.requires.of_share in
    kept_fields is.proxies (fields (goal.at.invariant_of-result c).In_ok-out c.requires.share is)

pub returns : goal.returns
returns c = λ share is. stands is.proxies (fields (goal.at.returns c).In_ok-out share is)
