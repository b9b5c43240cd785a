-- One arc more out of a tail is followed, or one run of them after another.
use Rattle.std.proofs.Common.{◌≡◌, ℕ, ◌<◌, Bool, cond, ◌==◌, ltb, List, [], ◌∷◌, ◌++◌, length, get_or, set, sym, ap, subst, ◌∙◌}
use Rattle.std.specs.List.{All, AllByRecursion, filter}
use Rattle.std.proofs.lemmas.List.Elements.{recursion_from_All, All-from_recursion, All-map, All-filter, All-weaker}
use Rattle.list_laws.specs.Members.{has_member}
use Rattle.graph_model.specs.Arcs.{Arc, arcs_of}
use Rattle.graph_model.specs.declared.edge.Way.{Way}
use Rattle.graph_division.specs.Shares.{Share, IsShare, proxies_here}
use Rattle.proxy_graph.specs.Heads.{Lent, vertex_at, lid_of, heads_from}
use Rattle.reduce_laws.specs.ReductionLaws.{Reducer, ReductionLaws}
use Rattle.reduce_laws.specs.ProgramLaws.{Steps, ProgramLaws}
use Rattle.reduce_laws.proofs.Combining.{combined-append, combined_is_value, value_or_identity, combine_identity}
use Rattle.arc_push.specs.Pushing.{IsLent, has_news, brought_by, Begins, Brings}
use Rattle.arc_push.proofs.Here.{IsHere, arcs_here}
use Rattle.arc_push.proofs.OneMore.{one_more, said_otherwise}

-- what holds of each element of two lists holds of those of the first
front_of : {X : Type 0} (P : X → Type 0) (xs ys : List X) → AllByRecursion P (xs ++ ys) → AllByRecursion P xs
front_of P [] ys h = tt
front_of P (x ∷ xs) ys h = (h.0, front_of P xs ys h.1)

-- and of those of the second
back_of : {X : Type 0} (P : X → Type 0) (xs ys : List X) → AllByRecursion P (xs ++ ys) → AllByRecursion P ys
back_of P [] ys h = h
back_of P (x ∷ xs) ys h = back_of P xs ys h.1

-- the arcs that a view lends are those of its graph
pub lent_by : (view : Lent) (way : Way) (share : Share) (tail : ℕ) → view.way ≡ way → view.share ≡ share → heads_from view.way view.share tail ≡ heads_from way share tail
lent_by view way share tail same_way same_share = ap (λ w. heads_from w view.share tail) same_way ∙ ap (λ s. heads_from way s tail) same_share

-- each arc out of a tail is lent
pub heads_are_lent : (way : Way) (share : Share) → IsShare share → (tail : ℕ) → All (IsLent (length (proxies_here share))) (heads_from way share tail)
heads_are_lent way share is tail =
    let chosen : List Arc = filter (λ arc. arc.tail == vertex_at share tail) (arcs_of way share.edges) in
    All-map (IsLent (length (proxies_here share))) (λ (arc : Arc). (lid_of share arc.head, arc.weight)) chosen
    (All-filter (λ arc. arc.tail == vertex_at share tail) (λ arc. IsLent (length (proxies_here share)) (lid_of share arc.head, arc.weight)) (arcs_of way share.edges)
    (All-weaker (IsHere share) (λ arc. IsLent (length (proxies_here share)) (lid_of share arc.head, arc.weight)) (λ arc here. record { head_known = here.head.within; weight_fits = here.weight_fits }) (arcs_of way share.edges) (arcs_here share is way)))

-- the arcs that were followed and the next one are lent
pub followed_are_lent : (proxies : ℕ) (run : List (ℕ × ℕ)) → All (IsLent proxies) run → (arcs : List (ℕ × ℕ)) (arc : ℕ × ℕ) (rest left : List (ℕ × ℕ)) → arcs ++ left ≡ run → left ≡ arc ∷ rest
    → AllByRecursion (IsLent proxies) arcs × IsLent proxies arc
followed_are_lent proxies run are arcs arc rest left order step =
    let P : ℕ × ℕ → Type 0 = IsLent proxies in
    let whole : arcs ++ arc ∷ rest ≡ run = sym (ap (λ zs. arcs ++ zs) step) ∙ order in
    let lent : AllByRecursion P (arcs ++ arc ∷ rest) = recursion_from_All P (arcs ++ arc ∷ rest) (subst (All P) (sym whole) are) in
    (front_of P arcs (arc ∷ rest) lent, (back_of P arcs (arc ∷ rest) lent).0)

-- the arcs of both runs out of a tail are lent
pub runs_are_lent : (way : Way) (share : Share) → IsShare share → (tail : ℕ) (run next_run : List (ℕ × ℕ)) → run ++ next_run ≡ heads_from way share tail
    → All (IsLent (length (proxies_here share))) run × All (IsLent (length (proxies_here share))) next_run
runs_are_lent way share is tail run next_run parts =
    let P : ℕ × ℕ → Type 0 = IsLent (length (proxies_here share)) in
    let lent : AllByRecursion P (run ++ next_run) = recursion_from_All P (run ++ next_run) (subst (All P) (sym parts) (heads_are_lent way share is tail)) in
    (All-from_recursion P run (front_of P run next_run lent), All-from_recursion P next_run (back_of P run next_run lent))

-- these arcs, out of a tail that shows y, bring what they bring with whatever came before
abbrev pub Follows : {Item State Shown : Type 0} (IsItem : Item → Type 0) (reducer : Reducer Item) (steps : Steps Item State Shown) (y : Shown) (masters proxies : ℕ) (arcs : List (ℕ × ℕ)) (items : List Item) (news : List Bool) (new_items : List Item) (new_news : List Bool) → Type 0
Follows {Item} {State} {Shown} IsItem reducer steps y masters proxies arcs items news new_items new_news =
    (start : List Item) (first : List Bool) (before : Shown → ℕ → Item)
    → Begins IsItem reducer masters proxies start first
    → Brings IsItem reducer masters proxies before start first items news
    → Brings IsItem reducer masters proxies (λ none l. reducer.combine (before none l) (brought_by reducer steps y arcs l)) start first new_items new_news

-- so they do where the masters and the proxies are counted in another way
pub follows_among : {Item State Shown : Type 0} (IsItem : Item → Type 0) (reducer : Reducer Item) (steps : Steps Item State Shown) (y : Shown) {masters other_masters proxies other_proxies : ℕ} → masters ≡ other_masters → proxies ≡ other_proxies
    → (arcs : List (ℕ × ℕ)) (items : List Item) (news : List Bool) (new_items : List Item) (new_news : List Bool)
    → Follows IsItem reducer steps y masters proxies arcs items news new_items new_news → Follows IsItem reducer steps y other_masters other_proxies arcs items news new_items new_news
follows_among IsItem reducer steps y {masters} {other_masters} {proxies} {other_proxies} same_masters same_proxies arcs items news new_items new_news follows =
    subst (λ m. Follows IsItem reducer steps y m other_proxies arcs items news new_items new_news) same_masters
    (subst (λ n. Follows IsItem reducer steps y masters n arcs items news new_items new_news) same_proxies follows)

module _ {Item State Shown : Type 0} {IsItem : Item → Type 0} {IsShown : Shown → Type 0} {IsState : State → Type 0} {reducer : Reducer Item} {steps : Steps Item State Shown} (laws : ReductionLaws IsItem reducer) (program : ProgramLaws IsItem IsShown IsState reducer steps)
    (proxies : ℕ) (y : Shown) (is_shown : IsShown y) where
  -- what one arc brings to a proxy
  abbrev brings_to : ℕ → ℕ × ℕ → Item
  brings_to l arc = cond (arc.0 == l) (steps.along y arc.1) reducer.identity

  pub along_lent : (arc : ℕ × ℕ) → IsLent proxies arc → IsItem (steps.along y arc.1)
  along_lent arc lent = program.along_is_value y arc.1 is_shown lent.weight_fits

  each_brings : (l : ℕ) (arcs : List (ℕ × ℕ)) → AllByRecursion (IsLent proxies) arcs → AllByRecursion (λ arc. IsItem (brings_to l arc)) arcs
  each_brings l [] h = tt
  each_brings l (arc ∷ arcs) h = (value_or_identity laws (arc.0 == l) (steps.along y arc.1) (along_lent arc h.0), each_brings l arcs h.1)

  brought_value : (l : ℕ) (arcs : List (ℕ × ℕ)) → AllByRecursion (IsLent proxies) arcs → IsItem (brought_by reducer steps y arcs l)
  brought_value l arcs lent = combined_is_value laws (brings_to l) arcs (each_brings l arcs lent)

  -- what two lists of arcs bring
  brought_append : (l : ℕ) (arcs more : List (ℕ × ℕ)) → AllByRecursion (IsLent proxies) arcs → AllByRecursion (IsLent proxies) more → brought_by reducer steps y (arcs ++ more) l ≡ reducer.combine (brought_by reducer steps y arcs l) (brought_by reducer steps y more l)
  brought_append l arcs more lent more_lent = combined-append laws (brings_to l) arcs more (each_brings l arcs lent) (each_brings l more more_lent)

  -- what one arc more brings
  brought_push : (l : ℕ) (arcs : List (ℕ × ℕ)) (arc : ℕ × ℕ) → AllByRecursion (IsLent proxies) arcs → IsLent proxies arc → brought_by reducer steps y (arcs ++ arc ∷ []) l ≡ reducer.combine (brought_by reducer steps y arcs l) (brings_to l arc)
  brought_push l arcs arc lent last =
      brought_append l arcs (arc ∷ []) lent (last, tt)
      ∙ ap (reducer.combine (brought_by reducer steps y arcs l)) (combine_identity laws (brings_to l arc) (value_or_identity laws (arc.0 == l) (steps.along y arc.1) (along_lent arc last)))

  module _ (masters : ℕ) (start : List Item) (first : List Bool) (begins : Begins IsItem reducer masters proxies start first) (before : Shown → ℕ → Item) where
    -- what was brought before this tail, and what its arcs bring
    abbrev pub with_arcs : List (ℕ × ℕ) → Shown → ℕ → Item
    with_arcs arcs none l = reducer.combine (before none l) (brought_by reducer steps y arcs l)

    -- before its first arc
    pub none_followed : (items : List Item) (news : List Bool) → Brings IsItem reducer masters proxies before start first items news → Brings IsItem reducer masters proxies (with_arcs []) start first items news
    none_followed items news done =
        said_otherwise laws masters proxies start first begins before (with_arcs []) items news
        (λ none l known. laws.combine_is_value (before none l) reducer.identity (done.is_value none l known) laws.identity_is_value)
        (λ none l known. sym (combine_identity laws (before none l) (done.is_value none l known))) done

    -- one arc more
    pub one_followed : ((none : Shown) (l : ℕ) → l < proxies → IsItem (before none l)) → (arcs : List (ℕ × ℕ)) (head weight : ℕ) → AllByRecursion (IsLent proxies) arcs → IsLent proxies (head, weight)
        → (items : List Item) (news : List Bool) → Brings IsItem reducer masters proxies (with_arcs arcs) start first items news
        → (item : Item) → item ≡ steps.along y weight → (new_items : List Item) (new_news : List Bool)
        → ((d : Item) → new_items ≡ set items head (reducer.combine (get_or items head d) item))
        → ((d : Item) → new_news ≡ set news head (has_news reducer (ltb head masters) (has_member news head) (get_or items head d) (reducer.combine (get_or items head d) item)))
        → Brings IsItem reducer masters proxies (with_arcs (arcs ++ (head, weight) ∷ [])) start first new_items new_news
    one_followed values arcs head weight lent last items news done item is new_items new_news wrote marked =
        let P : Item → Type 0 = IsItem in
        let is_item : IsItem item = subst P (sym is) (along_lent (head, weight) last) in
        let more = one_more laws masters proxies start first begins (with_arcs arcs) items news done y head item last.head_known is_item new_items new_news wrote marked in
        let same : (none : Shown) (l : ℕ) → l < proxies → reducer.combine (with_arcs arcs none l) (cond (head == l) item reducer.identity) ≡ with_arcs (arcs ++ (head, weight) ∷ []) none l
        = λ none l known.
        ap (λ x. reducer.combine (with_arcs arcs none l) (cond (head == l) x reducer.identity)) is
        ∙ laws.combine_assoc (before none l) (brought_by reducer steps y arcs l) (brings_to l (head, weight)) (values none l known) (brought_value l arcs lent) (value_or_identity laws (head == l) (steps.along y weight) (along_lent (head, weight) last))
        ∙ ap (reducer.combine (before none l)) (sym (brought_push l arcs (head, weight) lent last)) in
        said_otherwise laws masters proxies start first begins (λ none l. reducer.combine (with_arcs arcs none l) (cond (head == l) item reducer.identity)) (with_arcs (arcs ++ (head, weight) ∷ [])) new_items new_news
        (λ none l known. subst P (same none l known) (more.is_value none l known)) same more

  -- one run and then the other
  pub both_followed : (masters : ℕ) (run next_run : List (ℕ × ℕ)) → All (IsLent proxies) run → All (IsLent proxies) next_run
      → (items : List Item) (news : List Bool) (mid_items : List Item) (mid_news : List Bool) (new_items : List Item) (new_news : List Bool)
      → Follows IsItem reducer steps y masters proxies run items news mid_items mid_news
      → Follows IsItem reducer steps y masters proxies next_run mid_items mid_news new_items new_news
      → Follows IsItem reducer steps y masters proxies (run ++ next_run) items news new_items new_news
  both_followed masters run next_run run_lent next_lent items news mid_items mid_news new_items new_news one other start first before begins done =
      let P : Item → Type 0 = IsItem in
      let lent : AllByRecursion (IsLent proxies) run = recursion_from_All (IsLent proxies) run run_lent in
      let more_lent : AllByRecursion (IsLent proxies) next_run = recursion_from_All (IsLent proxies) next_run next_lent in
      let by_one : Shown → ℕ → Item = λ none l. reducer.combine (before none l) (brought_by reducer steps y run l) in
      let by_both : Shown → ℕ → Item = λ none l. reducer.combine (before none l) (brought_by reducer steps y (run ++ next_run) l) in
      let more = other start first by_one begins (one start first before begins done) in
      let same : (none : Shown) (l : ℕ) → l < proxies → reducer.combine (by_one none l) (brought_by reducer steps y next_run l) ≡ by_both none l
      = λ none l known.
      laws.combine_assoc (before none l) (brought_by reducer steps y run l) (brought_by reducer steps y next_run l) (done.is_value none l known) (brought_value l run lent) (brought_value l next_run more_lent)
      ∙ ap (reducer.combine (before none l)) (sym (brought_append l run next_run lent more_lent)) in
      said_otherwise laws masters proxies start first begins (λ none l. reducer.combine (by_one none l) (brought_by reducer steps y next_run l)) by_both new_items new_news
      (λ none l known. subst P (same none l known) (more.is_value none l known)) same more
