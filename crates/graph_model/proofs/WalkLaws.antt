-- Walks join and may be cut, and each that has an arc has a last one.
use Rattle.std.proofs.Common.{◌≡◌, ℕ, ◌+◌, List, [], ◌∷◌, ◌++◌, length, Contains, refl, sym, ap, subst, arith}
use Rattle.std.proofs.lemmas.List.Sums.{sum_by-append, sum_by-cons, sum_by_push}
use Rattle.graph_model.specs.Arcs.{Arc}
use Rattle.graph_model.specs.Walks.{IsWalk, cost_of}
use Rattle.graph_model.specs.Laws.{WalksJoin, WalksCut, WalksEndByArc}

-- a walk from u is one from an equal number
pub IsWalk_from : (arcs : List Arc) (u m v : ℕ) (path : List Arc) → u ≡ m → IsWalk arcs m path v → IsWalk arcs u path v
IsWalk_from arcs u m v path same walk = subst (λ x. IsWalk arcs x path v) (sym same) walk

-- a walk to v is one to an equal number
pub IsWalk_to : (arcs : List Arc) (u v w : ℕ) (path : List Arc) → v ≡ w → IsWalk arcs u path v → IsWalk arcs u path w
IsWalk_to arcs u v w path same walk = subst (λ x. IsWalk arcs u path x) same walk

-- two walks join
pub IsWalk-append : WalksJoin
IsWalk-append arcs u m v [] back first second = IsWalk_from arcs u m v back first second
IsWalk-append arcs u m v (arc ∷ rest) back first second =
    (first.0, first.1, IsWalk-append arcs arc.head m v rest back first.2 second)

-- a walk may be cut
pub IsWalk_cut : WalksCut
IsWalk_cut arcs u v [] back walk = (u, refl, walk)
IsWalk_cut arcs u v (arc ∷ rest) back walk =
    let cut = IsWalk_cut arcs arc.head v rest back walk.2 in
    (cut.0, (walk.0, walk.1, cut.1), cut.2)

-- a walk and an arc from its end
pub IsWalk_push : (arcs : List Arc) (u : ℕ) (before : List Arc) (arc : Arc) → IsWalk arcs u before arc.tail → Contains arcs arc → IsWalk arcs u (before ++ arc ∷ []) arc.head
IsWalk_push arcs u before arc walk member =
    IsWalk-append arcs u arc.tail arc.head before (arc ∷ []) walk (member, refl, refl)

-- a walk with an arc in it has a last arc
pub IsWalk_last : WalksEndByArc
IsWalk_last arcs u v first [] walk = record {
  before = [];
  last = first;
  whole = refl;
  walk = sym walk.1;
  member = walk.0;
  ends = walk.2;
}
IsWalk_last arcs u v first (next ∷ rest) walk =
    let later = IsWalk_last arcs first.head v next rest walk.2 in
    record {
      before = first ∷ later.before;
      last = later.last;
      whole = ap (λ xs. first ∷ xs) later.whole;
      walk = (walk.0, walk.1, later.walk);
      member = later.member;
      ends = later.ends;
    }

-- costs add up where paths join
pub cost_of-append : (cost : ℕ → ℕ) (front back : List Arc) → cost_of cost (front ++ back) ≡ cost_of cost front + cost_of cost back
cost_of-append cost front back = sum_by-append (λ arc. cost arc.weight) front back

-- the cost of a path with a first arc
pub cost_of-cons : (cost : ℕ → ℕ) (first : Arc) (rest : List Arc) → cost_of cost (first ∷ rest) ≡ cost first.weight + cost_of cost rest
cost_of-cons cost first rest = sum_by-cons (λ arc. cost arc.weight) first rest

-- the cost of a path with a last arc
pub cost_of_push : (cost : ℕ → ℕ) (before : List Arc) (last : Arc) → cost_of cost (before ++ last ∷ []) ≡ cost_of cost before + cost last.weight
cost_of_push cost before last = sum_by_push (λ arc. cost arc.weight) before last

-- where each arc costs 1 the cost is the number of arcs
pub cost_of_ones : (path : List Arc) → cost_of (λ weight. 1) path ≡ length path
cost_of_ones [] = refl
cost_of_ones (first ∷ rest) = omega (arith, cost_of-cons (λ weight. 1) first rest, cost_of_ones rest)
