use Rattle.std.proofs.Common.{◌≡◌, ℕ, ◌+◌, ◌<◌, ◌++◌, List, [], ◌∷◌, length, map, take, ap, sym, ◌∙◌, subst}
use Rattle.std.specs.List.{All}
use Rattle.std.proofs.lemmas.List.{map_more, take_more}
use Rattle.std.proofs.lemmas.List.Elements.{All-append, All-cons, All-nil}
use Rattle.graph_model.specs.Graph.{IsWeighed}
use Rattle.graph_model.specs.declared.edge.Edge.{Edge}
use Rattle.proxy_graph.specs.Numbering.{table_of}
use Rattle.proxy_graph.specs.Sides.{Out, edge_at, end_of, key_of}
use Rattle.proxy_graph.proofs.columns.Columns.new.Goals as goal

-- an edge for where there is none
abbrev none : Edge
none = record { src = 0; dst = 0; weight = 0 }

-- the weight of one edge more fits
one_more : (edges : List Edge) (i : ℕ) → i < length edges → All IsWeighed (take i edges) → IsWeighed (edge_at edges i) → All IsWeighed (take (i + 1) edges)
one_more edges i within weighed own =
    let P : List Edge → Type 0 = All IsWeighed in
    subst P (sym (take_more edges i _ within)) (All-append IsWeighed (take i edges) (edge_at edges i ∷ []) weighed (All-cons IsWeighed (edge_at edges i) [] own (All-nil IsWeighed)))

-- a column with what is kept of one edge more
longer : (value : Edge → ℕ) (edges : List Edge) (at : ℕ) (column more : List ℕ) (new : ℕ) → at < length edges → column ≡ map value (take at edges) → new ≡ value (edge_at edges at) → more ≡ column ++ new ∷ [] → more ≡ map value (take (at + 1) edges)
longer value edges at column more new within so_far is pushed =
    pushed ∙ ap (λ (n : ℕ). column ++ n ∷ []) is ∙ ap (λ (xs : List ℕ). xs ++ value (edge_at edges at) ∷ []) so_far ∙ sym (map_more value edges at none within)

pub loop-edge-preserved : goal.loop-edge-preserved
loop-edge-preserved c =
    let table = table_of c.args.numbering.now in
    let edges = c.args.edges.now in
    let at = c.loop-edge.edge-index in
    let within = c.loop-edge-test.true in
    let so_far = c.loop-edge.invariant in
    record {
      tails = longer (key_of Out table) edges at c.loop-edge.tails.items _ c.tail_of-tail.result within so_far.tails c.tail_of-tail.ensures c.in_ok-push.ensures.items;
      heads = longer (end_of Out table) edges at c.loop-edge.heads.items _ c.lid.result within so_far.heads c.lid.ensures c.in_ok-push-2.ensures.items;
      weights = longer (λ edge. edge.weight) edges at c.loop-edge.weights.items _ c.weight_of.result within so_far.weights c.weight_of.ensures c.in_ok-push-3.ensures.items;
      weighed = one_more edges at within so_far.weighed (rw c.weight_of.ensures at c.weight_of.type_inv);
      before = c.tail_of-tail.ensures;
    }
