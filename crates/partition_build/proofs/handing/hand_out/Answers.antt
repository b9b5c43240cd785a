use Rattle.std.proofs.Common.{◌≡◌, ◌<◌, ◌∷◌, ◌++◌, [], ℕ, List, Vec, Global, take, length, slice_set, slice_index_or, sym, ap, ◌∙◌, subst, arith}
use Rattle.std.proofs.lemmas.List.{take_more, take_all, get_or-map, length-set}
use Rattle.graph_model.specs.declared.edge.Edge.{Edge}
use Rattle.partition_build.specs.Rooms.{contents, HandsOut}
use Rattle.partition_build.proofs.RoomsLaws.{HandsOut-more}
use Rattle.partition_build.proofs.handing.hand_out.Goals as goal

pub loop-place-preserved : goal.loop-place-preserved
loop-place-preserved c =
    let edges = c.args.edges.now in
    let i = c.loop-place.place in
    let blank : Edge = record { src = 0; dst = 0; weight = 0 } in
    let edge = slice_index_or edges i blank in
    let mid = c.loop-place.rooms in
    let room = c.push.new.self in
    let to = c.from.result in
    let as_many = c.loop-place.invariant.as_many in
    let here : i < length c.args.owners.now = omega (arith, c.loop-place-test.true, c.requires.long) in
    let there : to < length mid = omega (arith, c.from.ensures, c.requires.hosts i 0 here, as_many) in
    let fuller : room.items ≡ slice_index_or (contents mid) to [] ++ edge ∷ [] =
    c.in_ok-push.ensures.items
    ∙ ap (λ (xs : List Edge). xs ++ edge ∷ []) (sym (get_or-map (λ (r : Vec Edge Global). r.items) mid to c.index-rooms-from.result [] there)) in
    record {
      as_many = length-set mid to room ∙ as_many;
      handed = λ owner told.
          let is : to ≡ owner edge = c.from.ensures ∙ ap (λ (os : List ℕ). slice_index_or os i 0) told ∙ get_or-map owner edges i blank 0 c.loop-place-test.true in
          rw (take_more edges i blank c.loop-place-test.true)
          (subst (λ (k : ℕ). HandsOut owner (take i edges ++ edge ∷ []) c.args.rooms.now (slice_set mid k room)) (sym is)
          (HandsOut-more owner (take i edges) edge c.args.rooms.now mid room (omega (arith, there, is)) (fuller ∙ ap (λ (k : ℕ). slice_index_or (contents mid) k [] ++ edge ∷ []) is) (c.loop-place.invariant.handed owner told)));
    }

pub returns : goal.returns
returns c = λ owner told.
    subst (λ (es : List Edge). HandsOut owner es c.args.rooms.now c.loop-place.rooms) (take_all c.loop-place.place c.args.edges.now (omega arith)) (c.loop-place.invariant.handed owner told)
