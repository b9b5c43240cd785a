-- The rounds of a program of labels end: a round that changes no label is the last that is needed.
use Rattle.std.proofs.Common.{◌≡◌, ◌≢◌, ℕ, zero, suc, ◌+◌, ◌-◌, ◌<◌, ◌≤◌, ◌↔◌, ◌==◌, max, true, false, Option, Some, None, List, length, refl, sym, subst, ◌∙◌, ap, ◌⊎◌, inl, inr, arith}
use Rattle.std.proofs.lemmas.Bool.Decides.{eqb_tells}
use Rattle.std.proofs.lemmas.List.Elements.{All-contains}
use Rattle.graph_model.specs.Arcs.{Arc}
use Rattle.graph_model.specs.Least.{Fares, Gives, IsLeast}
use Rattle.list_laws.proofs.Places.{slice_get_from_Contains}
use Rattle.graph_model.proofs.LeastLaws.{Gives_more, Gives_all, Gives_step, IsLeast_unique}
use Rattle.graph_model.proofs.ShortWalks.{Gives_shorten_arcs}
use Rattle.graph_model.specs.WalkCount.{HaveSameLeast, NothingNearer, IsWalkCount}
use Rattle.graph_division.specs.ProgramArcs.{IsArcOf, AreArcsOf}
use Rattle.reduce_laws.specs.Reducers.{least_below}
use Rattle.lone_rounds.specs.RoundCount.{IsQuietRound, IsRoundCount}
use Rattle.vertex_programs.specs.Labels.{answer_of, label_steps, label_after, Fits}
use Rattle.vertex_programs.specs.Laws.{RoundsEnd, LastIsAllWalks, LastLabelsAreLeast, QuietRounds, CountsAgree}
use Rattle.vertex_programs.proofs.Steps.{never_rises, each_gives}
use Rattle.vertex_programs.proofs.LeastLabels.{ends_within, labels_are_given, labels_are_least, label_is_some, label_at_most, by_answer, number_of-answer_of, rounds_are_walks, labels_are_answers}

-- two functions are the same below a bound
abbrev Agree : ℕ → (ℕ → ℕ) → (ℕ → ℕ) → Type 0
Agree n f g = (v : ℕ) → v < n → f v ≡ g v

-- they are, or they are not
agree_or_not : (n : ℕ) (f g : ℕ → ℕ) → Agree n f g ⊎ (Agree n f g → ⊥)
agree_or_not zero f g = inl (λ v below. absurd (omega arith))
agree_or_not (suc n) f g = step (agree_or_not n f g) (eqb_tells (f n) (g n))
  where
    step : Agree n f g ⊎ (Agree n f g → ⊥) → (((f n == g n) ≡ true) × (f n ≡ g n)) ⊎ (((f n == g n) ≡ false) × (f n ≢ g n)) → Agree (suc n) f g ⊎ (Agree (suc n) f g → ⊥)
    step (inl rest) (inl same) = inl (λ v below.
        elim (eqb_tells v n) [
          | inl is ↦ subst (λ u. f u ≡ g u) (sym is.1) same.1
          | inr other ↦ rest v (let apart = other.1 in omega arith)
        ])
    step (inl rest) (inr other) = inr (λ all. other.1 (all n (omega arith)))
    step (inr differs) either = inr (λ all. differs (λ v below. all v (omega arith)))

-- the first number that has a property, below a bound
record IsFirst (P : ℕ → Type 0) (bound : ℕ) : Type 0 where
  first : ℕ
  below : first < bound
  holds : P first
  none_before : (k : ℕ) → k < first → P k → ⊥

-- a property that can be decided has a first number, or none
first_or_none : (P : ℕ → Type 0) → ((k : ℕ) → P k ⊎ (P k → ⊥)) → (bound : ℕ) → IsFirst P bound ⊎ ((k : ℕ) → k < bound → P k → ⊥)
first_or_none P decide zero = inr (λ k below. absurd (omega arith))
first_or_none P decide (suc bound) = step (first_or_none P decide bound) (decide bound)
  where
    step : IsFirst P bound ⊎ ((k : ℕ) → k < bound → P k → ⊥) → P bound ⊎ (P bound → ⊥) → IsFirst P (suc bound) ⊎ ((k : ℕ) → k < suc bound → P k → ⊥)
    step (inl is) either = inl (record { first = is.first; below = (let less = is.below in omega arith); holds = is.holds; none_before = is.none_before })
    step (inr none) (inl here) = inl (record { first = bound; below = omega arith; holds = here; none_before = none })
    step (inr none) (inr fails) = inr (λ k below p.
        elim (eqb_tells k bound) [
          | inl is ↦ fails (subst P is.1 p)
          | inr other ↦ none k (let apart = other.1 in omega arith) p
        ])

module _ (limit : ℕ) (fares : Fares) (nodes : ℕ) (arcs : List Arc) (fact : AreArcsOf nodes arcs) (fits : Fits limit nodes fares) where
  -- the round after so many changes no label
  abbrev Quiet : ℕ → Type 0
  Quiet rounds = IsQuietRound (least_below limit) (label_steps limit fares) nodes arcs rounds

  -- later labels are no greater
  fall_later : (more rounds v : ℕ) → label_after limit fares arcs (more + rounds) v ≤ label_after limit fares arcs rounds v
  fall_later zero rounds v = let same = ap (λ n. label_after limit fares arcs n v) (let e : zero + rounds ≡ rounds = omega arith in e) in omega arith
  fall_later (suc more) rounds v =
      let same = ap (λ n. label_after limit fares arcs n v) (let e : suc more + rounds ≡ suc (more + rounds) = omega arith in e) in
      let before = fall_later more rounds v in
      let falls = never_rises limit fares arcs (more + rounds) v in
      omega (arith, same, before, falls)

  falls_by : (rounds later v : ℕ) → rounds ≤ later → label_after limit fares arcs later v ≤ label_after limit fares arcs rounds v
  falls_by rounds later v order =
      let same = ap (λ n. label_after limit fares arcs n v) (let e : (later - rounds) + rounds ≡ later = omega arith in e) in
      let falls = fall_later (later - rounds) rounds v in
      omega (arith, same, falls)

  -- after a quiet round no walk, however long, gives less
  quiet_is_least : (rounds : ℕ) → Quiet rounds → (long v total : ℕ) → v < nodes → Gives fares arcs (Some long) v total → label_after limit fares arcs rounds v ≤ total
  quiet_is_least rounds quiet zero v total below given =
      let falls = falls_by 0 rounds v (omega arith) in
      let least = labels_are_least limit fares arcs 0 v total given in
      omega (arith, falls, least)
  quiet_is_least rounds quiet (suc long) v total below given =
      elim ((Gives_step fares arcs long v total).0 (Gives_more fares arcs (suc long) (long + 1) v total (omega arith) given)) [
        | inl short ↦ quiet_is_least rounds quiet long v total below short
        | inr by ↦ (
            let at = slice_get_from_Contains arcs by.last by.member in
            let along = each_gives limit fares arcs rounds by.last at.0 at.1 in
            let tail = (All-contains (IsArcOf nodes) arcs by.last fact.within by.member).tail_within in
            let before = quiet_is_least rounds quiet long by.last.tail by.before tail by.gives in
            let there = ap (label_after limit fares arcs (suc rounds)) by.ends in
            let same = quiet v below in
            omega (arith, along, before, there, same, by.adds_up)
            )
      ]

  -- what some walk gives is given within the number of its arcs
  within_its_arcs : (v total : ℕ) → Gives fares arcs None v total → (long : ℕ) × Gives fares arcs (Some long) v total
  within_its_arcs v total given = (
    length given.path,
    record {
      from = given.from;
      begin = given.begin;
      path = given.path;
      starts = given.starts;
      walk = given.walk;
      short = omega arith;
      adds_up = given.adds_up;
    },
  )

  -- so after a quiet round the labels are the least of all walks
  quiet_is_last : (before rounds v : ℕ) → Quiet before → before ≤ rounds → v < nodes → IsLeast fares arcs None v (answer_of (limit - 1) (label_after limit fares arcs rounds v))
  quiet_is_last before rounds v quiet later below =
      let label = label_after limit fares arcs rounds v in
      let falls = falls_by before rounds v later in
      by_answer (IsLeast fares arcs None v) (limit - 1) label
      (λ same total given.
      let long = within_its_arcs v total given in
      let some = label_is_some limit fares arcs nodes fact fits long.0 v total below long.1 in
      let least = quiet_is_least before quiet long.0 v _ below (labels_are_given limit fares arcs long.0 v some) in
      absurd (omega (arith, falls, some, least, same)))
      (λ other.
      let most = label_at_most limit fares arcs nodes fact fits rounds v below in
      let some : label < limit - 1 = omega (arith, most, other) in (
        Gives_all fares arcs rounds v label (labels_are_given limit fares arcs rounds v some),
        λ total given.
            let long = within_its_arcs v total given in
            let least = quiet_is_least before quiet long.0 v total below long.1 in
            omega (arith, falls, least),
      ))

  -- who has the same least has the same answers
  same_answers : (one other : Option ℕ) (answer : ℕ → Option ℕ) → ((v : ℕ) → v < nodes → IsLeast fares arcs one v (answer v)) → ((v : ℕ) → v < nodes → IsLeast fares arcs other v (answer v)) → HaveSameLeast fares nodes arcs one other
  same_answers one other answer first second v least below = (
    λ is. subst (IsLeast fares arcs other v) (IsLeast_unique fares arcs one v (answer v) least (first v below) is) (second v below),
    λ is. subst (IsLeast fares arcs one v) (IsLeast_unique fares arcs other v (answer v) least (second v below) is) (first v below),
  )

  -- a quiet round changes no answer
  pub quiet_changes_nothing : (rounds : ℕ) → Quiet rounds → NothingNearer fares nodes arcs rounds
  quiet_changes_nothing rounds quiet =
      same_answers (Some rounds) (Some (suc rounds)) (λ v. answer_of (limit - 1) (label_after limit fares arcs rounds v))
      (λ v below. rounds_are_walks limit fares nodes arcs rounds v fact fits below)
      (λ v below. subst (λ n. IsLeast fares arcs (Some (suc rounds)) v (answer_of (limit - 1) n)) (quiet v below) (rounds_are_walks limit fares nodes arcs (suc rounds) v fact fits below))

  -- and a round that changes no answer is quiet
  pub nothing_changed_is_quiet : (rounds : ℕ) → NothingNearer fares nodes arcs rounds → Quiet rounds
  nothing_changed_is_quiet rounds same v below =
      let label = label_after limit fares arcs rounds v in
      labels_are_answers limit fares nodes arcs (suc rounds) v (answer_of (limit - 1) label) fact fits below
      ((same v (answer_of (limit - 1) label) below).0 (rounds_are_walks limit fares nodes arcs rounds v fact fits below))
      ∙ number_of-answer_of (limit - 1) label

  -- with as many rounds as nodes there is a quiet one
  quiet_at_nodes : Quiet (nodes - 1)
  quiet_at_nodes v below =
      let falls = never_rises limit fares arcs (nodes - 1) v in
      let stays = cases (let either : (label_after limit fares arcs (suc (nodes - 1)) v < limit - 1) ⊎ (limit - 1 ≤ label_after limit fares arcs (suc (nodes - 1)) v) = grind arith in either) in
      omega (arith, falls, stays)
    where
      cases : (label_after limit fares arcs (suc (nodes - 1)) v < limit - 1) ⊎ (limit - 1 ≤ label_after limit fares arcs (suc (nodes - 1)) v) → label_after limit fares arcs (nodes - 1) v ≤ label_after limit fares arcs (suc (nodes - 1)) v
      cases (inl some) =
          let given = labels_are_given limit fares arcs (suc (nodes - 1)) v some in
          let shorter = Gives_shorten_arcs fares nodes arcs (nodes - 1) v _ (ends_within limit fares arcs nodes fact fits) (omega arith) (Gives_all fares arcs (suc (nodes - 1)) v _ given) in
          let least = labels_are_least limit fares arcs (nodes - 1) v shorter.0 shorter.2 in
          let less = shorter.1 in
          omega (arith, least, less)
      cases (inr none) = let most = label_at_most limit fares arcs nodes fact fits (nodes - 1) v below in omega (arith, most, none)

  -- the first quiet round is the last that walks need
  pub is_walk_count : (before : ℕ) → Quiet before → ((earlier : ℕ) → Quiet earlier → before ≤ earlier) → IsWalkCount fares nodes arcs (suc before)
  is_walk_count before quiet first = record {
    before = before;
    last = refl;
    quiet = quiet_changes_nothing before quiet;
    first = λ earlier nothing. first earlier (nothing_changed_is_quiet earlier nothing);
  }

  pub counts_are_same : (rounds : ℕ) → IsRoundCount (least_below limit) (label_steps limit fares) nodes arcs rounds ↔ IsWalkCount fares nodes arcs rounds
  counts_are_same rounds = (
    λ count. record {
      before = count.before;
      last = count.last;
      quiet = quiet_changes_nothing count.before count.quiet;
      first = λ earlier nothing. count.first earlier (nothing_changed_is_quiet earlier nothing);
    },
    λ count. record {
      before = count.before;
      last = count.last;
      quiet = nothing_changed_is_quiet count.before count.quiet;
      first = λ earlier quiet. count.first earlier (quiet_changes_nothing earlier quiet);
    },
  )

  pub some_round_is_last : (rounds : ℕ) × (rounds ≤ max 1 nodes) × IsWalkCount fares nodes arcs rounds
  some_round_is_last = step (first_or_none Quiet (λ k. agree_or_not nodes (label_after limit fares arcs (suc k)) (label_after limit fares arcs k)) (max 1 nodes))
    where
      step : IsFirst Quiet (max 1 nodes) ⊎ ((k : ℕ) → k < max 1 nodes → Quiet k → ⊥) → (rounds : ℕ) × (rounds ≤ max 1 nodes) × IsWalkCount fares nodes arcs rounds
      step (inl is) = (suc is.first, is.below, is_walk_count is.first is.holds (λ earlier quiet. no_earlier earlier quiet (let either : (is.first ≤ earlier) ⊎ (earlier < is.first) = grind arith in either)))
        where
          no_earlier : (earlier : ℕ) → Quiet earlier → (is.first ≤ earlier) ⊎ (earlier < is.first) → is.first ≤ earlier
          no_earlier earlier quiet (inl low) = low
          no_earlier earlier quiet (inr below) = absurd (is.none_before earlier below quiet)
      step (inr none) = absurd (none (nodes - 1) (omega arith) quiet_at_nodes)

  pub later_is_all : (rounds later : ℕ) → IsWalkCount fares nodes arcs rounds → rounds ≤ later → HaveSameLeast fares nodes arcs (Some later) None
  later_is_all rounds later count after =
      let quiet = nothing_changed_is_quiet count.before count.quiet in
      same_answers (Some later) None (λ v. answer_of (limit - 1) (label_after limit fares arcs later v))
      (λ v below. rounds_are_walks limit fares nodes arcs later v fact fits below)
      (λ v below. quiet_is_last count.before later v quiet (let last = count.last in omega arith) below)

pub rounds_end : (limit : ℕ) (fares : Fares) → RoundsEnd limit fares
rounds_end limit fares nodes arcs fact fits = some_round_is_last limit fares nodes arcs fact fits

pub last_is_all_walks : (limit : ℕ) (fares : Fares) → LastIsAllWalks limit fares
last_is_all_walks limit fares nodes arcs rounds later fact fits count after = later_is_all limit fares nodes arcs fact fits rounds later count after

pub quiet_rounds : (limit : ℕ) (fares : Fares) → QuietRounds limit fares
quiet_rounds limit fares nodes arcs rounds fact fits =
    (quiet_changes_nothing limit fares nodes arcs fact fits rounds, nothing_changed_is_quiet limit fares nodes arcs fact fits rounds)

pub counts_agree : (limit : ℕ) (fares : Fares) → CountsAgree limit fares
counts_agree limit fares nodes arcs rounds fact fits = counts_are_same limit fares nodes arcs fact fits rounds

pub last_labels_are_least : (limit : ℕ) (fares : Fares) → LastLabelsAreLeast limit fares
last_labels_are_least limit fares nodes arcs rounds later v fact fits below count after =
    (last_is_all_walks limit fares nodes arcs rounds later fact fits count after v (answer_of (limit - 1) (label_after limit fares arcs later v)) below).0
    (rounds_are_walks limit fares nodes arcs later v fact fits below)
