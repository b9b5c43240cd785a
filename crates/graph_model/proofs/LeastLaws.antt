-- What walks give grows with the limit on their arcs, step by step, and the least is unique.
use Rattle.std.proofs.Common.{◌≡◌, ℕ, ◌+◌, ◌≤◌, ◌⊎◌, List, [], ◌∷◌, ◌++◌, length, Some, None, refl, ap, inl, inr, arith}
use Rattle.std.proofs.lemmas.List.{length_push}
use Rattle.graph_model.specs.Arcs.{Arc}
use Rattle.graph_model.specs.Walks.{IsWalk, cost_of}
use Rattle.graph_model.specs.Least.{Fares, Gives}
use Rattle.graph_model.specs.Laws.{GivesByArc, LevelsStep, LevelsGrow, LevelsEnd, LeastIsUnique}
use Rattle.graph_model.proofs.WalkLaws.{IsWalk_last, IsWalk_push, IsWalk_to, cost_of_push}

-- a larger limit allows more
pub Gives_more : LevelsGrow
Gives_more fares arcs limit larger v total le given = record {
  from = given.from;
  begin = given.begin;
  path = given.path;
  starts = given.starts;
  walk = given.walk;
  short = let short : length given.path ≤ limit = given.short in omega arith;
  adds_up = given.adds_up;
}

-- no limit allows all
pub Gives_all : LevelsEnd
Gives_all fares arcs limit v total given = record {
  from = given.from;
  begin = given.begin;
  path = given.path;
  starts = given.starts;
  walk = given.walk;
  short = tt;
  adds_up = given.adds_up;
}

-- an arc after what walks to its tail give
pub Gives-by_arc : (fares : Fares) (arcs : List Arc) (limit v total : ℕ) → GivesByArc fares arcs limit v total → Gives fares arcs (Some (limit + 1)) v total
Gives-by_arc fares arcs limit v total by = record {
  from = by.gives.from;
  begin = by.gives.begin;
  path = by.gives.path ++ by.last ∷ [];
  starts = by.gives.starts;
  walk = IsWalk_to arcs by.gives.from by.last.head v (by.gives.path ++ by.last ∷ []) by.ends (IsWalk_push arcs by.gives.from by.gives.path by.last by.gives.walk by.member);
  short = let short : length by.gives.path ≤ limit = by.gives.short in omega (arith, length_push by.gives.path by.last);
  adds_up = omega (arith, by.adds_up, by.gives.adds_up, cost_of_push fares.cost by.gives.path by.last);
}

-- a path of at most one arc more is within the limit, or has a last arc after one that is
split_by_arc : (fares : Fares) (arcs : List Arc) (limit v total from begin : ℕ) (path : List Arc) → fares.start from ≡ Some begin → IsWalk arcs from path v → length path ≤ limit + 1 → total ≡ begin + cost_of fares.cost path → Gives fares arcs (Some limit) v total ⊎ GivesByArc fares arcs limit v total
split_by_arc fares arcs limit v total from begin [] starts walk short adds_up = inl (record {
  from = from;
  begin = begin;
  path = [];
  starts = starts;
  walk = walk;
  short = omega arith;
  adds_up = adds_up;
})
split_by_arc fares arcs limit v total from begin (first ∷ rest) starts walk short adds_up =
    let ending = IsWalk_last arcs from v first rest walk in
    inr (record {
      last = ending.last;
      before = begin + cost_of fares.cost ending.before;
      member = ending.member;
      ends = ending.ends;
      gives = record {
        from = from;
        begin = begin;
        path = ending.before;
        starts = starts;
        walk = ending.walk;
        short = omega (arith, ap length ending.whole, length_push ending.before ending.last);
        adds_up = refl;
      };
      adds_up = omega (arith, ap (cost_of fares.cost) ending.whole, cost_of_push fares.cost ending.before ending.last);
    })

-- the step from one limit to the next
pub Gives_step : LevelsStep
Gives_step fares arcs limit v total = (
  λ given. split_by_arc fares arcs limit v total given.from given.begin given.path given.starts given.walk given.short given.adds_up,
  λ either. elim either [ inl given ↦ Gives_more fares arcs limit (limit + 1) v total (omega arith) given | inr by ↦ Gives-by_arc fares arcs limit v total by ],
)

-- the least is unique
pub IsLeast_unique : LeastIsUnique
IsLeast_unique fares arcs limit v None None one other = refl
IsLeast_unique fares arcs limit v None (Some b) one other = absurd (one b other.0)
IsLeast_unique fares arcs limit v (Some a) None one other = absurd (other a one.0)
IsLeast_unique fares arcs limit v (Some a) (Some b) one other =
    let below : a ≤ b = one.1 b other.0 in
    let above : b ≤ a = other.1 a one.0 in
    let same : a ≡ b = omega arith in
    ap (λ n. Some n) same
