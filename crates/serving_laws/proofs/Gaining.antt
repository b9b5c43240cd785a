-- What a host's own arcs bring by its own fields is what they contribute to the round.
use Rattle.std.proofs.Common.{◌≡◌, ℕ, ◌<◌, Bool, true, false, cond, ◌&&◌, ◌||◌, ◌==◌, nat_lt, List, [], ◌∷◌, length, get_or, refl, sym, ap, subst, ◌∙◌, arith}
use Rattle.std.specs.List.{All, AllByRecursion, filter}
use Rattle.std.proofs.lemmas.Bool.{or_right, eq-eqb}
use Rattle.std.proofs.lemmas.List.Elements.{recursion_from_All}
use Rattle.std.proofs.lemmas.List.Folds.{list_any_at}
use Rattle.graph_model.specs.Arcs.{Arc, arcs_of}
use Rattle.reduce_laws.specs.ReductionLaws.{Reducer, combined}
use Rattle.reduce_laws.specs.ProgramLaws.{Steps}
use Rattle.lone_rounds.specs.Moments.{carried_along, brought}
use Rattle.graph_division.specs.Division.{Division}
use Rattle.graph_division.specs.ProgramArcs.{IsArcOf}
use Rattle.graph_division.specs.Lists.{is_readable, is_writable}
use Rattle.graph_division.specs.Shares.{seen, nodes_of, proxies_here}
use Rattle.proxy_graph.specs.Heads.{lid_of}
use Rattle.proxy_graph.specs.Numbering.{IsLidOf}
use Rattle.proxy_graph.proofs.Lids.{place_is}
use Rattle.round_packets.specs.Runs.{Run, IsRun, moment_of, shows, contribution}
use Rattle.host_laws.specs.HostView.{vertex}
use Rattle.host_laws.specs.Standing.{StandsFor, is_lit}
use Rattle.host_state.specs.HostState.{HostState, IsHost}
use Rattle.host_state.specs.Serving.{run_of, Serves}
use Rattle.host_state.specs.Gained.{is_live, sent_along, gained}
use Rattle.serving_laws.proofs.Proxies.{arcs_here, readable_here, vertex_is, among_proxies}

-- items are combined alike where tests and items agree on the list
combined_alike : {Item A : Type 0} (reducer : Reducer Item) (f g : A → Item) (p q : A → Bool) (xs : List A) → AllByRecursion (λ x. (f x ≡ g x) × (p x ≡ q x)) xs → combined reducer f (filter p xs) ≡ combined reducer g (filter q xs)
combined_alike reducer f g p q [] alike = refl
combined_alike {Item} {A} reducer f g p q (x ∷ xs) alike = step (p x) (q x) alike.0.1 (combined_alike reducer f g p q xs alike.1)
  where
    step : (a b : Bool) → a ≡ b → combined reducer f (filter p xs) ≡ combined reducer g (filter q xs) → combined reducer f (cond a (x ∷ filter p xs) (filter p xs)) ≡ combined reducer g (cond b (x ∷ filter q xs) (filter q xs))
    step true true same rest = ap (λ y. reducer.combine y (combined reducer f (filter p xs))) alike.0.0 ∙ ap (reducer.combine (g x)) rest
    step true false same rest = absurd (cc)
    step false true same rest = absurd (cc)
    step false false same rest = rest

module _ {Program Item State Shown : Type 0} {IsItem : Item → Type 0} {IsShown : Shown → Type 0} {IsState : State → Type 0} (reducer : Reducer Item) (steps : Steps Item State Shown) (item_size shown_size : ℕ)
    (division : Division) (rounds : ℕ) (host : HostState Program Item State Shown) (is : IsHost host) (serves : Serves division host)
    (fact : IsRun IsItem IsShown IsState (run_of reducer steps item_size shown_size division)) (stands : StandsFor (run_of reducer steps item_size shown_size division) rounds host.view) where
  abbrev run : Run Item State Shown
  run = run_of reducer steps item_size shown_size division

  -- the tail of one of the host's arcs has a proxy here, which shows and is awake as in the whole graph
  record HasTail (tail : ℕ) : Type 0 where
    shown : (none : Shown) → get_or host.view.shown (lid_of host.graph tail) none ≡ shows run rounds tail
    awake : get_or host.view.awake (lid_of host.graph tail) false ≡ (moment_of run rounds).awake tail

  has_tail : (tail : ℕ) → tail < nodes_of host.graph → is_readable (seen host.way host.graph) host.graph.host tail ≡ true → HasTail tail
  has_tail tail below read =
      let l = lid_of host.graph tail in
      let met = ap (λ b. b || is_writable (seen host.way host.graph) host.graph.host tail) read in
      let place : IsLidOf (proxies_here host.graph) tail l = place_is (proxies_here host.graph) tail (among_proxies host.way host.graph tail below met) in
      let same : vertex host.view l ≡ tail = vertex_is division host is serves l ∙ place.here in
      let within : l < length host.view.vertices = let long = ap length is.vertices_are in let small = place.within in omega arith in
      let lit : is_lit division host.view l ≡ true
      = or_right (nat_lt l host.view.masters) (is_readable division host.view.host (vertex host.view l))
      (ap (is_readable division host.view.host) same ∙ readable_here division host is serves tail ∙ read) in
      record {
        shown = λ none. stands.shown l none within lit ∙ ap (shows run rounds) same;
        awake = stands.awake l within lit ∙ ap (λ v. (moment_of run rounds).awake v) same;
      }

  tails : All (λ arc. HasTail arc.tail) (arcs_of host.way host.graph.edges)
  tails k d within =
      let arcs = arcs_of host.way host.graph.edges in
      let arc = get_or arcs k d in
      let below = (subst (λ (list : List Arc). All (IsArcOf division.nodes) list) (arcs_here division host is serves) (fact.divided.within host.view.host)) k d within in
      has_tail arc.tail (let tail_within = below.tail_within in let nodes = serves.nodes in omega arith)
      (list_any_at (λ (other : Arc). other.tail == arc.tail) arcs k d within (eq-eqb arc.tail arc.tail refl))

  pub gained_is : (none : Shown) (v : ℕ) → gained reducer steps host.graph host.way host.view.shown host.view.awake none v ≡ contribution (run_of reducer steps item_size shown_size division) rounds host.view.host v
  unfolding gained brought
  gained_is none v =
      combined_alike reducer (sent_along reducer steps host.graph host.way host.view.shown host.view.awake none) (carried_along steps (moment_of run rounds)) (is_live host.graph host.view.awake v) (λ arc. arc.head == v && (moment_of run rounds).awake arc.tail)
      (arcs_of host.way host.graph.edges)
      (recursion_from_All _ (arcs_of host.way host.graph.edges) (λ k d within.
      let arc = get_or (arcs_of host.way host.graph.edges) k d in
      let tail = tails k d within in
      (ap (λ y. steps.along y arc.weight) (tail.shown none), ap (λ b. arc.head == v && b) tail.awake)))
      ∙ ap (λ (arcs : List Arc). brought reducer steps arcs (moment_of run rounds) v) (sym (arcs_here division host is serves))
