-- What walks give depends on which arcs there are alone, and so does the number of rounds that they take.
use Rattle.std.proofs.Common.{ℕ, suc, Option, Some, None, List, [], ◌∷◌, Contains, arith}
use Rattle.std.specs.List.Sorted.{IsPermutation}
use Rattle.std.proofs.lemmas.List.Sorted.{Contains-permutation, IsPermutation-sym}
use Rattle.graph_model.specs.Arcs.{Arc}
use Rattle.graph_model.specs.Walks.{IsWalk}
use Rattle.graph_model.specs.Least.{Fares, Gives}
use Rattle.graph_model.specs.WalkCount.{NothingNearer}
use Rattle.graph_model.specs.Laws.{ArcsAreASet, LeastOrderIsFree, WalkCountOrderIsFree, WalkCountIsUnique}

-- a walk on arcs is one on arcs that have them
walk_among : (arcs others : List Arc) → ((arc : Arc) → Contains arcs arc → Contains others arc) → (u : ℕ) (path : List Arc) (v : ℕ) → IsWalk arcs u path v → IsWalk others u path v
walk_among arcs others among u [] v walk = walk
walk_among arcs others among u (arc ∷ rest) v walk = (among arc walk.0, walk.1, walk_among arcs others among arc.head rest v walk.2)

-- and gives the same
gives_among : (fares : Fares) (arcs others : List Arc) (limit : Option ℕ) (v total : ℕ) → ((arc : Arc) → Contains arcs arc → Contains others arc) → Gives fares arcs limit v total → Gives fares others limit v total
gives_among fares arcs others limit v total among given = record {
  from = given.from;
  begin = given.begin;
  path = given.path;
  starts = given.starts;
  walk = walk_among arcs others among given.from given.path v given.walk;
  short = given.short;
  adds_up = given.adds_up;
}

pub arcs_are_a_set : ArcsAreASet
arcs_are_a_set fares arcs others limit v None same least = λ total given. least total (gives_among fares others arcs limit v total (λ arc. (same arc).1) given)
arcs_are_a_set fares arcs others limit v (Some n) same least = (
  gives_among fares arcs others limit v n (λ arc. (same arc).0) least.0,
  λ total given. least.1 total (gives_among fares others arcs limit v total (λ arc. (same arc).1) given),
)

pub least_order_is_free : LeastOrderIsFree
least_order_is_free fares arcs others limit v least moved is =
    arcs_are_a_set fares arcs others limit v least
    (λ arc. (Contains-permutation arcs others arc moved, Contains-permutation others arcs arc (IsPermutation-sym arcs others moved)))
    is

-- one arc more makes no difference in any order
nothing_in_any_order : (fares : Fares) (nodes : ℕ) (arcs others : List Arc) (rounds : ℕ) → IsPermutation arcs others → NothingNearer fares nodes arcs rounds → NothingNearer fares nodes others rounds
nothing_in_any_order fares nodes arcs others rounds moved nothing v least below =
    let back = IsPermutation-sym arcs others moved in (
      λ is. least_order_is_free fares arcs others (Some (suc rounds)) v least moved ((nothing v least below).0 (least_order_is_free fares others arcs (Some rounds) v least back is)),
      λ is. least_order_is_free fares arcs others (Some rounds) v least moved ((nothing v least below).1 (least_order_is_free fares others arcs (Some (suc rounds)) v least back is)),
    )

pub walk_count_order_is_free : WalkCountOrderIsFree
walk_count_order_is_free fares nodes arcs others rounds moved count = record {
  before = count.before;
  last = count.last;
  quiet = nothing_in_any_order fares nodes arcs others count.before moved count.quiet;
  first = λ earlier nothing. count.first earlier (nothing_in_any_order fares nodes others arcs earlier (IsPermutation-sym arcs others moved) nothing);
}

pub walk_count_is_unique : WalkCountIsUnique
walk_count_is_unique fares nodes arcs rounds others one two =
    let below = one.first two.before two.quiet in
    let above = two.first one.before one.quiet in
    let last = one.last in
    let other = two.last in omega arith
