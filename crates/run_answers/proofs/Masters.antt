-- The masters of a cluster's hosts between two rounds.
use Rattle.std.proofs.Common.{◌≡◌, ℕ, ◌+◌, ◌<◌, ◌≤◌, Bool, true, false, ◌==◌, ◌||◌, ◌-◌, List, [], ◌∷◌, ◌++◌, length, map, take, get_or, slice_get, slice_index, slice_index_or, Some, refl, sym, ap, subst, ◌∙◌, arith, inl, inr}
use Rattle.std.specs.Prelude.{option_map, if◌then◌else◌, suc}
use Rattle.std.specs.List.{filter, flat_map, range_with_len, zip}
use Rattle.std.specs.List.Sorted.{IsNonDecreasing}
use Rattle.std.proofs.lemmas.Bool.{cases_lt, eqb-false, ne_eqb}
use Rattle.std.proofs.lemmas.List.{length-map, take_more}
use Rattle.std.proofs.lemmas.List.Elements.{All-weaker}
use Rattle.std.proofs.lemmas.List.Folds.{list_any-append}
use Rattle.std.proofs.lemmas.Option.{slice_get-map, slice_get-get_or, slice_get_within, get_or_from_slice_get}
use Rattle.std.proofs.lemmas.Slice.Zip.{length-zip, get_or-zip}
use Rattle.list_laws.specs.Among.{is_among}
use Rattle.list_laws.specs.Rising.{NeverFalls}
use Rattle.list_laws.proofs.Places.{element_at, All-at}
use Rattle.reduce_laws.specs.ReductionLaws.{Reducer}
use Rattle.reduce_laws.specs.ProgramLaws.{Steps}
use Rattle.graph_division.specs.Shares.{Share, nodes_of, masters_here, mirrors_here, proxies_here}
use Rattle.graph_division.specs.Partition.{IsShareOf, masters_of_all}
use Rattle.graph_division.proofs.Listed.{picked}
use Rattle.graph_division.proofs.Partitions.{partitions_divide}
use Rattle.graph_division.proofs.PrunedLists.{range_below}
use Rattle.address_memo.proofs.Mirrors.{mirror_owned, vertex_of_master, vertex_of_mirror, length_proxies}
use Rattle.answer_writer.specs.Lines.{answer_line}
use Rattle.round_packets.specs.Runs.{Run, state_of}
use Rattle.host_laws.specs.HostView.{HostView, vertex}
use Rattle.host_laws.specs.Standing.{StandsFor}
use Rattle.host_state.specs.HostState.{HostState, IsHost}
use Rattle.host_state.specs.Serving.{run_of}
use Rattle.round_driver.specs.ClusterState.{ClusterState, IsCluster, IsHostOf, StandsNow, shares_of, division_in}
use Rattle.run_answers.specs.States.{state_line, lines_here}
use Rattle.run_answers.proofs.HostByHost.{below, of, others, homes_rise, one_more, all_parted, all_at_last, told_of_states}

-- the line of a vertex after so many rounds
abbrev pub answer_text : {Item State Shown : Type 0} → Run Item State Shown → (rounds v : ℕ) → List ℕ
answer_text run rounds v = answer_line v (run.steps.answer (state_of run rounds v))

-- ---- one host's part of the graph

-- a vertex whose proxy is behind the masters, or that has none, has its master elsewhere
pub elsewhere_behind : (share : Share) (lid v : ℕ) → slice_get (proxies_here share) lid ≡ Some v → length (masters_here share) ≤ lid → (slice_index_or share.masters v 0 == share.host) ≡ false
elsewhere_behind share lid v at behind =
    let inside = slice_get_within (proxies_here share) lid v at in
    let place : lid - length (masters_here share) < length (mirrors_here share) = omega (arith, length_proxies share) in
    let vertex : slice_index (mirrors_here share) (lid - length (masters_here share)) ≡ v = sym (vertex_of_mirror share lid behind) ∙ get_or_from_slice_get (proxies_here share) lid v 0 at in
    ne_eqb (slice_index_or share.masters v 0) share.host (λ same. mirror_owned share (lid - length (masters_here share)) place (ap (λ u. slice_index_or share.masters u 0) vertex ∙ same))

neither : (a b : Bool) → (a || b) ≡ false → a ≡ false
neither true b none = none
neither false b none = refl

pub elsewhere_missing : (share : Share) (v : ℕ) → v < nodes_of share → is_among (proxies_here share) v ≡ false → (slice_index_or share.masters v 0 == share.host) ≡ false
elsewhere_missing share v known missing =
    sym (picked (λ u. slice_index_or share.masters u 0 == share.host) 0 (nodes_of share) v (omega arith) (omega arith))
    ∙ neither (is_among (masters_here share) v) (is_among (mirrors_here share) v) (sym (list_any-append (λ other. other == v) (masters_here share) (mirrors_here share)) ∙ missing)

-- a proxy before that is a master
pub master_before : (share : Share) (lid v : ℕ) → slice_get (proxies_here share) lid ≡ Some v → lid < length (masters_here share) → slice_get (masters_here share) lid ≡ Some v
master_before share lid v at before =
    slice_get-get_or (masters_here share) lid 0 before
    ∙ ap (λ u. Some u) (sym (vertex_of_master share lid before) ∙ get_or_from_slice_get (proxies_here share) lid v 0 at)

-- what stands at a place of one list stands there in the same list
pub found : {X : Type 0} (xs ys : List X) (k : ℕ) (x : X) → xs ≡ ys → k < length xs → x ≡ get_or xs k x → slice_get ys k ≡ Some x
found {X} xs ys k x same inside is = ap (λ (l : List X). slice_get l k) (sym same) ∙ slice_get-get_or xs k x inside ∙ ap (λ y. Some y) (sym is)

module _ {Program Item State Shown : Type 0} (host : HostState Program Item State Shown) (is : IsHost host) where
  -- the masters of a host and their states
  abbrev pub told_here : List (ℕ × State)
  told_here = zip (masters_here host.graph) host.view.states

  pub told_count : length told_here ≡ length (masters_here host.graph)
  told_count = let both = length-zip (masters_here host.graph) host.view.states in let fit = is.states_fit in let count = is.masters_are in omega arith

  -- those so far, and one more
  pub one_more_told : (lid v : ℕ) (s : State) → slice_get (masters_here host.graph) lid ≡ Some v → slice_get host.view.states lid ≡ Some s → take (lid + 1) told_here ≡ take lid told_here ++ (v, s) ∷ []
  one_more_told lid v s master state =
      let inside = slice_get_within (masters_here host.graph) lid v master in
      let there = slice_get_within host.view.states lid s state in
      let count = told_count in
      take_more told_here lid (v, s) (omega arith)
      ∙ ap (λ told. take lid told_here ++ told ∷ [])
      (get_or-zip (masters_here host.graph) host.view.states lid (v, s) inside there
      ∙ ap (λ u. (u, get_or host.view.states lid s)) (get_or_from_slice_get (masters_here host.graph) lid v v master)
      ∙ ap (λ t. (v, t)) (get_or_from_slice_get host.view.states lid s s state))

spread_after : (computed spread : Bool) → (spread ≡ true → computed ≡ true) → computed ≡ false → spread ≡ false
spread_after computed true first none = cc (first refl)
spread_after computed false first none = refl

module _ {Program Item State Shown : Type 0} (item_size shown_size : ℕ) (cluster : ClusterState Program Item State Shown) (is : IsCluster item_size shown_size cluster) where
  -- the host of a vertex's master
  abbrev pub home_in : ℕ → ℕ
  home_in v = (division_in cluster).master v

  abbrev pub vertices_in : List ℕ
  vertices_in = range_with_len 0 (division_in cluster).nodes

  hosts_count : length (shares_of cluster) ≡ length cluster.hosts
  hosts_count = length-map cluster.hosts (λ (host : HostState Program Item State Shown). host.graph)

  -- hosts do not fall along the vertices, and there are no more than the cluster has
  homes_in_order : NeverFalls (home_in 0) (map home_in vertices_in)
  homes_in_order =
      let first = element_at (shares_of cluster) 0 (let some = is.is_partition.some_host in omega arith) in
      let of_first = is.is_partition.by_host 0 first.0 first.1 in
      homes_rise (masters_of_all (shares_of cluster)) 0 (division_in cluster).nodes (subst (λ (homes : List ℕ). IsNonDecreasing homes) of_first.agrees of_first.is_share.contiguous) (omega arith)

  pub home_within : (v : ℕ) → v < (division_in cluster).nodes → home_in v < length cluster.hosts
  home_within v known = let below = (partitions_divide cluster.way (shares_of cluster) is.is_partition).mastered v known in let same = hosts_count in omega arith

  -- the vertices of so many hosts and of one more
  pub next_host : (number : ℕ) → below home_in (number + 1) vertices_in ≡ below home_in number vertices_in ++ of home_in number vertices_in
  next_host number = one_more home_in (home_in 0) number vertices_in homes_in_order

  pub later_hosts : (number : ℕ) → vertices_in ≡ below home_in number vertices_in ++ others home_in number vertices_in
  later_hosts number = all_parted home_in (home_in 0) number vertices_in homes_in_order

  pub all_hosts : (number : ℕ) → length cluster.hosts ≤ number → below home_in number vertices_in ≡ vertices_in
  all_hosts number all =
      all_at_last home_in number vertices_in
      (All-weaker (λ v. v < (division_in cluster).nodes) (λ v. home_in v < number) (λ v known. let within = home_within v known in omega arith) vertices_in (range_below 0 (division_in cluster).nodes (division_in cluster).nodes (omega arith)))

  module _ (number : ℕ) (host : HostState Program Item State Shown) (at : slice_get cluster.hosts number ≡ Some host) where
    pub is_host : IsHost host
    is_host = (All-at (IsHostOf cluster.program cluster.way) cluster.hosts number host is.hosts_are at).is_host

    share_at : slice_get (shares_of cluster) number ≡ Some host.graph
    share_at =
        slice_get-map (λ (h : HostState Program Item State Shown). h.graph) cluster.hosts number ∙ ap (option_map (λ (h : HostState Program Item State Shown). h.graph)) at

    of_share : IsShareOf (length (shares_of cluster)) (masters_of_all (shares_of cluster)) number host.graph
    of_share = is.is_partition.by_host number host.graph share_at

    -- its masters are the vertices of its number
    pub masters_are : masters_here host.graph ≡ of home_in number vertices_in
    masters_are =
        ap (λ (homes : List ℕ). filter (λ v. slice_index_or homes v 0 == host.graph.host) (range_with_len 0 (length homes))) of_share.agrees
        ∙ ap (λ h. filter (λ v. home_in v == h) vertices_in) of_share.of_host

    pub known_here : (v : ℕ) → v < (division_in cluster).nodes → v < nodes_of host.graph
    known_here v known = let same = ap (λ (homes : List ℕ). length homes) of_share.agrees in omega arith

    -- a vertex whose master is not here and on no host before is one of a later host
    pub later_than : (v : ℕ) → number ≤ home_in v → (slice_index_or host.graph.masters v 0 == host.graph.host) ≡ false → number + 1 ≤ home_in v
    later_than v since elsewhere =
        let other = eqb-false (home_in v) number (sym (ap (λ (homes : List ℕ). slice_index_or homes v 0 == host.graph.host) of_share.agrees ∙ ap (λ h. home_in v == h) of_share.of_host) ∙ elsewhere) in
        elim (cases_lt number (home_in v)) [ inl later ↦ omega arith | inr most ↦ absurd (other (omega arith)) ]

    module _ (item_bytes : Item → List ℕ) (shown_bytes : Shown → List ℕ) (reducer : Reducer Item) (steps : Steps Item State Shown) (stands : StandsNow reducer steps item_size shown_size item_bytes shown_bytes cluster) where
      abbrev run_in : Run Item State Shown
      run_in = run_of reducer steps item_size shown_size (division_in cluster)

      view_at : slice_index_or (map (λ (h : HostState Program Item State Shown). h.view) cluster.hosts) number host.view ≡ host.view
      view_at =
          get_or_from_slice_get (map (λ (h : HostState Program Item State Shown). h.view) cluster.hosts) number host.view host.view
          (slice_get-map (λ (h : HostState Program Item State Shown). h.view) cluster.hosts number ∙ ap (option_map (λ (h : HostState Program Item State Shown). h.view)) at)

      within : number < length (shares_of cluster)
      within = let there = slice_get_within cluster.hosts number host at in let same = hosts_count in omega arith

      host_stands : StandsFor run_in cluster.round host.view
      host_stands = subst (λ (view : HostView Program Item State Shown). StandsFor run_in cluster.round view) view_at ((stands host.view).stands.each number within)

      not_spread : host.view.has_spread ≡ false
      not_spread =
          spread_after host.view.has_computed host.view.has_spread host_stands.computed_first
          (subst (λ (view : HostView Program Item State Shown). view.has_computed ≡ false) view_at ((stands host.view).not_computed number within))

      -- the state of a master is that of its vertex
      pub state_here : (lid : ℕ) (d : State) → lid < length (masters_here host.graph) → slice_index_or host.view.states lid d ≡ state_of run_in cluster.round (slice_index (masters_here host.graph) lid)
      state_here lid d master =
          host_stands.states lid d (let count = is_host.masters_are in omega arith)
          ∙ ap (λ b. state_of run_in (if b then suc cluster.round else cluster.round) (vertex host.view lid)) not_spread
          ∙ ap (λ (vs : List ℕ). state_of run_in cluster.round (slice_index vs lid)) is_host.vertices_are
          ∙ ap (state_of run_in cluster.round) (vertex_of_master host.graph lid master)

      pub state_at : (lid v : ℕ) (s : State) → slice_get (masters_here host.graph) lid ≡ Some v → slice_get host.view.states lid ≡ Some s → s ≡ state_of run_in cluster.round v
      state_at lid v s master state =
          sym (get_or_from_slice_get host.view.states lid s s state) ∙ state_here lid s (slice_get_within (masters_here host.graph) lid v master)
          ∙ ap (state_of run_in cluster.round) (get_or_from_slice_get (masters_here host.graph) lid v 0 master)

      -- the lines of its masters are those of their vertices
      pub lines_are : lines_here steps.answer host ≡ flat_map (answer_text run_in cluster.round) (of home_in number vertices_in)
      lines_are =
          told_of_states (state_line steps.answer) (state_of run_in cluster.round) (masters_here host.graph) host.view.states (is_host.states_fit ∙ is_host.masters_are) state_here
          ∙ ap (flat_map (answer_text run_in cluster.round)) masters_are
