use Rattle.std.proofs.Common.{◌≡◌, ◌+◌, ◌≤◌, length, Some, slice_index_or, slice_get, refl, subst, arith}
use Rattle.std.proofs.lemmas.Option.{slice_get-get_or}
use Rattle.graph_model.specs.Graph.{IsWithin}
use Rattle.graph_model.specs.declared.edge.Edge.{Edge}
use Rattle.list_laws.proofs.Places.{All-at}
use Rattle.share_plan.proofs.StartsLaws.{AreStartsSoFar, AreStartsSoFar_stay, AreStartsSoFar_fill, starts_end}
use Rattle.share_plan.proofs.starts.starts.Goals as goal
use Rattle.share_plan.proofs.starts.starts.Goals.{then-len-source+in_ok-resize, else-len-source}

pub loop-place-preserved : goal.loop-place-preserved
loop-place-preserved c =
    let edges = c.args.edges.now in
    let place = c.loop-place.place in
    let old = c.loop-place.starts in
    let blank : Edge = record { src = 0; dst = 0; weight = 0 } in
    let edge = slice_index_or edges place blank in
    let at : slice_get edges place ≡ Some edge = slice_get-get_or edges place blank c.loop-place-test.true in
    elim c.if-len-source.branch [
      | then-len-source+in_ok-resize w ↦ (
          let new = w.resize.new.self in
          let ends = (All-at (IsWithin c.args.nodes) edges place edge c.requires.within at).0 in
          let long : length new.items ≡ edge.src + 1 = omega (arith, new.ok.0, w.in_ok-resize.ensures.len) in
          let short : length old.items ≤ edge.src = omega (arith, old.ok.0, c.len.ensures, w.if-len-source.true) in
          rw w.starts-is (record {
            few = omega (arith, ends, long);
            so_far = AreStartsSoFar_fill edges place edge old.items new.items c.requires.by_source at short long
                (λ k less. w.in_ok-resize.ensures.by_index.0 k 0 (omega (arith, short)) (omega (arith, old.ok.0)))
                (λ k more below. w.in_ok-resize.ensures.by_index.1 k 0 refl (omega (arith, old.ok.0)) below)
                c.loop-place.invariant.so_far;
          }))
      | else-len-source w ↦ rw w.starts-is (record {
        few = c.loop-place.invariant.few;
        so_far = AreStartsSoFar_stay edges place edge old.items at (omega (arith, old.ok.0, c.len.ensures, w.if-len-source.false)) c.loop-place.invariant.so_far;
      })
    ]

pub returns : goal.returns
returns c =
    let edges = c.args.edges.now in
    let old = c.loop-place.starts in
    let new = c.resize-2.new.self in
    let done : c.loop-place.place ≡ length edges = omega arith in
    let so_far = subst (λ n. AreStartsSoFar edges n old.items) done c.loop-place.invariant.so_far in
    starts_end (record { nodes = c.args.nodes; edges = edges }) old.items new.items (omega (arith, new.ok.0, c.in_ok-resize-2.ensures.len)) c.loop-place.invariant.few
    (λ k less. c.in_ok-resize-2.ensures.by_index.0 k 0 (omega (arith, c.loop-place.invariant.few)) (omega (arith, old.ok.0)))
    (λ k more below. c.in_ok-resize-2.ensures.by_index.1 k 0 refl (omega (arith, old.ok.0)) below)
    so_far
