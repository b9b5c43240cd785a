-- The label of a vertex after so many rounds is the least that walks of so many arcs give.
use Rattle.std.proofs.Common.{◌≡◌, ◌≢◌, ℕ, zero, suc, ◌+◌, ◌-◌, ◌*◌, ◌<◌, ◌≤◌, min, cond, Option, Some, None, List, [], ◌∷◌, length, refl, sym, subst, ◌∙◌, ap, ◌⊎◌, inl, inr, arith, Contains}
use Rattle.std.specs.List.{All, filter}
use Rattle.std.proofs.lemmas.Bool.{and_parts, eqb-true}
use Rattle.std.proofs.lemmas.Bool.Decides.{eqb_tells}
use Rattle.std.proofs.lemmas.List.Elements.{All-contains, All-weaker}
use Rattle.std.proofs.Math.Nat.{suc-mul, mul-le-mul_right}
use Rattle.graph_model.specs.Arcs.{Arc}
use Rattle.graph_model.specs.Walks.{IsWalk, cost_of}
use Rattle.graph_model.specs.Least.{Fares, Gives, IsLeast}
use Rattle.list_laws.proofs.Places.{slice_get_from_Contains, Contains-from_slice_get}
use Rattle.graph_model.proofs.WalkLaws.{cost_of-cons}
use Rattle.graph_model.proofs.LeastLaws.{Gives_more, Gives_all, Gives-by_arc, Gives_step, IsLeast_unique}
use Rattle.graph_model.proofs.ShortWalks.{IsArcWithin, Gives_shorten_arcs}
use Rattle.reduce_laws.specs.ReductionLaws.{combined}
use Rattle.reduce_laws.specs.Reducers.{least_below}
use Rattle.graph_division.specs.ProgramArcs.{IsArcOf, AreArcsOf}
use Rattle.vertex_programs.specs.Labels.{number_of, answer_of, label_after, Fits}
use Rattle.vertex_programs.specs.Laws.{RoundsAreWalks, LabelsAreLeast, SumsAreLabels}
use Rattle.vertex_programs.proofs.Steps.{Passes, least_is_one, is_live, given_along, label_next, never_rises, each_gives}

module _ (limit : ℕ) (fares : Fares) (arcs : List Arc) where
  -- what a vertex starts with is what the walk of no arcs gives
  start_gives : (v : ℕ) (x : Option ℕ) → fares.start v ≡ x → number_of (limit - 1) x < limit - 1 → Gives fares arcs (Some 0) v (number_of (limit - 1) x)
  start_gives v None is small = absurd (omega arith)
  start_gives v (Some begin) is small = record { from = v; begin = begin; path = []; starts = is; walk = refl; short = omega arith; adds_up = omega arith }

  -- what was given within a limit is given within one arc more
  gives_next : (rounds v total more : ℕ) → total ≡ more → Gives fares arcs (Some rounds) v total → Gives fares arcs (Some (suc rounds)) v more
  gives_next rounds v total more same given = subst (λ n. Gives fares arcs (Some (suc rounds)) v n) same (Gives_more fares arcs rounds (suc rounds) v total (omega arith) given)

  -- a label that came along an arc is given by a walk with that arc
  arc_gives : (rounds v total : ℕ) (arc : Arc) → Contains arcs arc → arc.head ≡ v → total ≡ given_along limit fares arcs rounds arc → total < limit - 1
      → ((u : ℕ) → label_after limit fares arcs rounds u < limit - 1 → Gives fares arcs (Some rounds) u (label_after limit fares arcs rounds u))
      → Gives fares arcs (Some (suc rounds)) v total
  arc_gives rounds v total arc member ends is small before =
      Gives_more fares arcs (rounds + 1) (suc rounds) v total (omega arith)
      (Gives-by_arc fares arcs rounds v total (record {
        last = arc;
        before = label_after limit fares arcs rounds arc.tail;
        member = member;
        ends = ends;
        gives = before arc.tail (omega arith);
        adds_up = omega arith;
      }))

  -- a label of the next round is given by a walk, if the labels of this one are
  label_gives : (rounds v : ℕ) → ((u : ℕ) → label_after limit fares arcs rounds u < limit - 1 → Gives fares arcs (Some rounds) u (label_after limit fares arcs rounds u)) → label_after limit fares arcs (suc rounds) v < limit - 1 → Gives fares arcs (Some (suc rounds)) v (label_after limit fares arcs (suc rounds) v)
  label_gives rounds v before small =
      let brings = combined (least_below limit) (given_along limit fares arcs rounds) (filter (is_live limit fares arcs rounds v) arcs) in
      let next : label_after limit fares arcs (suc rounds) v ≡ min (label_after limit fares arcs rounds v) brings = label_next limit fares arcs rounds v in
      cases brings next (least_is_one limit (given_along limit fares arcs rounds) (is_live limit fares arcs rounds v) arcs)
      (let either : (label_after limit fares arcs rounds v ≤ brings) ⊎ (brings < label_after limit fares arcs rounds v) = grind arith in either)
    where
      cases : (brings : ℕ) → label_after limit fares arcs (suc rounds) v ≡ min (label_after limit fares arcs rounds v) brings
          → (brings ≡ limit - 1) ⊎ Passes (given_along limit fares arcs rounds) (is_live limit fares arcs rounds v) arcs brings
          → (label_after limit fares arcs rounds v ≤ brings) ⊎ (brings < label_after limit fares arcs rounds v)
          → Gives fares arcs (Some (suc rounds)) v (label_after limit fares arcs (suc rounds) v)
      cases brings next some (inl stays) =
          let same : label_after limit fares arcs rounds v ≡ label_after limit fares arcs (suc rounds) v = omega arith in
          gives_next rounds v _ _ same (before v (omega arith))
      cases brings next (inl none) (inr falls) =
          let same : label_after limit fares arcs rounds v ≡ label_after limit fares arcs (suc rounds) v = omega arith in
          gives_next rounds v _ _ same (before v (omega arith))
      cases brings next (inr one) (inr falls) =
          let is : label_after limit fares arcs (suc rounds) v ≡ brings = omega arith in
          arc_gives rounds v (label_after limit fares arcs (suc rounds) v) one.found (Contains-from_slice_get arcs one.place one.found one.at)
          (eqb-true one.found.head v (and_parts _ _ one.passes).0) (is ∙ one.gives) small before

  -- each label is given by a walk
  pub labels_are_given : (rounds v : ℕ) → label_after limit fares arcs rounds v < limit - 1 → Gives fares arcs (Some rounds) v (label_after limit fares arcs rounds v)
  labels_are_given zero v small = start_gives v (fares.start v) refl small
  labels_are_given (suc rounds) v small = label_gives rounds v (labels_are_given rounds) small

  -- a path of no arcs stays where it is
  no_arcs : (path : List Arc) (from begin v total : ℕ) → fares.start from ≡ Some begin → IsWalk arcs from path v → length path ≤ 0 → total ≡ begin + cost_of fares.cost path → label_after limit fares arcs 0 v ≤ total
  no_arcs [] from begin v total starts walk short adds_up =
      let is : label_after limit fares arcs 0 v ≡ begin = ap (λ u. number_of (limit - 1) (fares.start u)) (sym walk) ∙ ap (number_of (limit - 1)) starts in
      omega (arith, is, adds_up)
  no_arcs (arc ∷ rest) from begin v total starts walk short adds_up = absurd (omega arith)

  -- no walk gives less than the label
  pub labels_are_least : (rounds v total : ℕ) → Gives fares arcs (Some rounds) v total → label_after limit fares arcs rounds v ≤ total
  labels_are_least zero v total given = no_arcs given.path given.from given.begin v total given.starts given.walk given.short given.adds_up
  labels_are_least (suc rounds) v total given =
      elim ((Gives_step fares arcs rounds v total).0 (Gives_more fares arcs (suc rounds) (rounds + 1) v total (omega arith) given)) [
        | inl short ↦ (
            let before = labels_are_least rounds v total short in
            let falls = never_rises limit fares arcs rounds v in
            omega (arith, before, falls)
            )
        | inr by ↦ (
            let at = slice_get_from_Contains arcs by.last by.member in
            let along = each_gives limit fares arcs rounds by.last at.0 at.1 in
            let before = labels_are_least rounds by.last.tail by.before by.gives in
            let there = ap (label_after limit fares arcs (suc rounds)) by.ends in
            omega (arith, along, before, there, by.adds_up)
            )
      ]

  module _ (nodes : ℕ) (fact : AreArcsOf nodes arcs) (fits : Fits limit nodes fares) where
    -- arcs are between nodes
    pub ends_within : All (IsArcWithin nodes) arcs
    ends_within = All-weaker (IsArcOf nodes) (IsArcWithin nodes) (λ arc ends. (ends.tail_within, ends.head_within)) arcs fact.within

    -- what a path costs has a bound
    path_costs : (path : List Arc) (from v : ℕ) → IsWalk arcs from path v → cost_of fares.cost path ≤ length path * fits.most_cost
    path_costs [] from v walk = omega arith
    path_costs (arc ∷ rest) from v walk =
        let one = fits.costs arc.weight (All-contains (IsArcOf nodes) arcs arc fact.within walk.0).weight_fits in
        let others = path_costs rest arc.head v walk.2 in
        omega (arith, one, others, cost_of-cons fares.cost arc rest, suc-mul (length rest) fits.most_cost)

    -- a walk to a node starts at one
    starts_within : (path : List Arc) (from v : ℕ) → IsWalk arcs from path v → v < nodes → from < nodes
    starts_within [] from v walk below = omega (arith, walk)
    starts_within (arc ∷ rest) from v walk below =
        let tail = (All-contains (IsArcOf nodes) arcs arc fact.within walk.0).tail_within in omega (arith, tail, walk.1)

    -- so what walks of few arcs give has a bound
    total_bound : (few v total : ℕ) → few < nodes → v < nodes → Gives fares arcs (Some few) v total → total + fits.most_cost ≤ fits.most_start + nodes * fits.most_cost
    total_bound few v total less below given =
        let short : length given.path ≤ few = given.short in
        let first = fits.starts given.from given.begin (starts_within given.path given.from v given.walk below) given.starts in
        let costs = path_costs given.path given.from v given.walk in
        let longer : length given.path * fits.most_cost ≤ few * fits.most_cost = mul-le-mul_right fits.most_cost short in
        let most : suc few * fits.most_cost ≤ nodes * fits.most_cost = mul-le-mul_right fits.most_cost less in
        omega (arith, given.adds_up, first, costs, longer, most, suc-mul few fits.most_cost)

    -- and a label that is given at all too, after however many rounds
    pub label_bound : (rounds v total : ℕ) → v < nodes → Gives fares arcs (Some rounds) v total → label_after limit fares arcs rounds v + fits.most_cost ≤ fits.most_start + nodes * fits.most_cost
    label_bound rounds v total below given =
        let shorter = Gives_shorten_arcs fares nodes arcs (nodes - 1) v total ends_within (omega arith) (Gives_all fares arcs rounds v total given) in
        cases shorter.0 shorter.2 (let either : (nodes - 1 ≤ rounds) ⊎ (rounds < nodes - 1) = grind arith in either)
      where
        cases : (less : ℕ) → Gives fares arcs (Some (nodes - 1)) v less → (nodes - 1 ≤ rounds) ⊎ (rounds < nodes - 1) → label_after limit fares arcs rounds v + fits.most_cost ≤ fits.most_start + nodes * fits.most_cost
        cases less short (inl many) =
            let least = labels_are_least rounds v less (Gives_more fares arcs (nodes - 1) rounds v less many short) in
            let bound = total_bound (nodes - 1) v less (omega arith) below short in
            omega (arith, least, bound)
        cases less short (inr few) =
            let least = labels_are_least rounds v total given in
            let bound = total_bound rounds v total (omega arith) below given in
            omega (arith, least, bound)

    -- a label that is given is not none
    pub label_is_some : (rounds v total : ℕ) → v < nodes → Gives fares arcs (Some rounds) v total → label_after limit fares arcs rounds v < limit - 1
    label_is_some rounds v total below given =
        let bound = label_bound rounds v total below given in omega (arith, bound, fits.room)

    -- what a vertex starts with is at most none
    start_at_most : (x : Option ℕ) → ((begin : ℕ) → x ≡ Some begin → begin ≤ fits.most_start) → number_of (limit - 1) x ≤ limit - 1
    start_at_most None h = omega arith
    start_at_most (Some begin) h = let bound = h begin refl in omega (arith, bound, fits.room)

    -- and so is every label
    pub label_at_most : (rounds v : ℕ) → v < nodes → label_after limit fares arcs rounds v ≤ limit - 1
    label_at_most zero v below = start_at_most (fares.start v) (λ begin is. fits.starts v begin below is)
    label_at_most (suc rounds) v below =
        let before = label_at_most rounds v below in
        let falls = never_rises limit fares arcs rounds v in
        omega (arith, before, falls)

-- what holds of either answer of a number holds of its answer
pub by_answer : (P : Option ℕ → Type 0) (none label : ℕ) → (label ≡ none → P None) → (label ≢ none → P (Some label)) → P (answer_of none label)
by_answer P none label is_none is_some =
    elim (eqb_tells label none) [
      | inl same ↦ subst P (ap (λ b. cond b None (Some label)) (sym same.0)) (is_none same.1)
      | inr other ↦ subst P (ap (λ b. cond b None (Some label)) (sym other.0)) (is_some other.1)
    ]

-- the number of a number's answer is that number
pub number_of-answer_of : (none label : ℕ) → number_of none (answer_of none label) ≡ label
number_of-answer_of none label = by_answer (λ x. number_of none x ≡ label) none label (λ same. sym same) (λ other. refl)

pub rounds_are_walks : (limit : ℕ) (fares : Fares) → RoundsAreWalks limit fares
rounds_are_walks limit fares nodes arcs rounds v fact fits below =
    let label = label_after limit fares arcs rounds v in
    by_answer (IsLeast fares arcs (Some rounds) v) (limit - 1) label
    (λ same total given. let some = label_is_some limit fares arcs nodes fact fits rounds v total below given in absurd (omega (arith, some, same)))
    (λ other.
    let most = label_at_most limit fares arcs nodes fact fits rounds v below in
    let some : label < limit - 1 = omega (arith, most, other) in
    (labels_are_given limit fares arcs rounds v some, labels_are_least limit fares arcs rounds v))

pub labels_are_answers : (limit : ℕ) (fares : Fares) → LabelsAreLeast limit fares
labels_are_answers limit fares nodes arcs rounds v least fact fits below is =
    sym (number_of-answer_of (limit - 1) (label_after limit fares arcs rounds v))
    ∙ ap (number_of (limit - 1)) (IsLeast_unique fares arcs (Some rounds) v _ least (rounds_are_walks limit fares nodes arcs rounds v fact fits below) is)

pub sums_are_labels : (limit : ℕ) (fares : Fares) → SumsAreLabels limit fares
sums_are_labels limit fares nodes arcs rounds arc fact fits member some =
    let ends = All-contains (IsArcOf nodes) arcs arc fact.within member in
    let bound = label_bound limit fares arcs nodes fact fits rounds arc.tail _ ends.tail_within (labels_are_given limit fares arcs rounds arc.tail some) in
    let cost = fits.costs arc.weight ends.weight_fits in
    omega (arith, bound, cost, fits.room)
