use Rattle.std.proofs.Common.{◌∷◌, [], ◌++◌, map, sym, ap, ◌∙◌}
use Rattle.std.proofs.lemmas.List.{append-nil, append_assoc}
use Rattle.rand_xoshiro.specs.SplitMix64.{mix_u64}
use Rattle.graph_maker.specs.Words.{word_at, words_from}
use Rattle.graph_maker.specs.MadeGraph.{drawn_edge}
use Rattle.graph_maker.proofs.Stream.{state_at-zero, mix_u64-state_at}
use Rattle.graph_maker.proofs.Made.{drawn-more}
use Rattle.graph_maker.proofs.made_graph.push_drawn.Goals as goal

pub loop-i-init : goal.loop-i-init
loop-i-init c = record {
  edges = sym (append-nil c.args.edges.now.items);
  words = sym (state_at-zero c.args.words.now c.requires.state_fits);
}

pub loop-i-preserved : goal.loop-i-preserved
loop-i-preserved c =
    let state = c.args.words.now in
    let i = c.loop-i.i in
    let old = c.args.edges.now.items in
    let draw = drawn_edge c.args.size c.args.node in
    let step = c.next_word-word.ensures ∙ ap mix_u64 c.loop-i.invariant.words ∙ mix_u64-state_at state i in
    let word = ap (λ p. p.0) step in
    let edge = c.edge_by_word.ensures ∙ ap draw word in
    record {
      edges =
          c.in_ok-push.ensures.items
          ∙ ap (λ l. l ++ c.edge_by_word.result ∷ []) c.loop-i.invariant.edges
          ∙ ap (λ e. (old ++ map draw (words_from state 0 i)) ++ e ∷ []) edge
          ∙ append_assoc old (map draw (words_from state 0 i)) (draw (word_at state i) ∷ [])
          ∙ ap (λ l. old ++ l) (sym (drawn-more draw state i));
      words = ap (λ p. p.1) step;
    }
