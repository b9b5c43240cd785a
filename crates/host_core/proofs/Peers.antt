-- The lists of a host with any peer: which proxies they name, and how many.
use Rattle.std.proofs.Common.{◌≡◌, ◌≢◌, ℕ, suc, ◌<◌, ◌≤◌, Bool, true, false, not, ◌&&◌, ◌||◌, ◌==◌, nat_eq, nat_lt, nat_le, List, [], ◌∷◌, length, map, get_or, slice_index, refl, sym, ap, subst, ◌∙◌, arith, inl, inr}
use Rattle.std.specs.List.{All, range_with_len, slice_index_or}
use Rattle.std.proofs.lemmas.Bool.{both_ways, and_parts, cases_lt, cases_eq, eq-eqb, ne_eqb, eqb-true, lt-ltb, le-ltb, le-leb, lt-leb}
use Rattle.std.proofs.lemmas.List.{get_or_default, get_or_past}
use Rattle.std.proofs.lemmas.List.Elements.{All-map, All-weaker, filter_passes}
use Rattle.std.proofs.lemmas.List.FromFn.{length-range_with_len}
use Rattle.std.proofs.lemmas.List.Folds.{list_any_at, list_any_none}
use Rattle.list_laws.specs.Among.{is_among, place_of}
use Rattle.graph_model.specs.Graph.{most_nodes}
use Rattle.graph_model.specs.declared.edge.Way.{Way}
use Rattle.graph_division.specs.Lists.{is_mirror, is_readable, is_writable}
use Rattle.graph_division.specs.Shares.{Share, seen, nodes_of, proxies_here}
use Rattle.graph_division.proofs.Listed.{picked}
use Rattle.graph_division.proofs.PrunedLists.{picked_below}
use Rattle.proxy_graph.specs.Heads.{vertex_at, lid_of}
use Rattle.proxy_graph.proofs.Lids.{place_is}
use Rattle.proxy_graph.proofs.Read.{proxies_below}
use Rattle.address_memo.specs.Memos.{Proxies, none, list_at, proxies_of, own_reduce}
use Rattle.address_memo.proofs.Filters.{length_picked}
use Rattle.host_state.specs.HostState.{HostState, IsHost}
use Rattle.host_state.specs.Posting.{is_listed}
use Rattle.host_state.specs.OwnEffects.{is_sent}
use Rattle.serving_laws.proofs.Proxies.{among_proxies}
use Rattle.host_core.proofs.Lists.{one_proxy, own_reduces, masters_are_here, few_listed, locals_here}
use Rattle.host_core.proofs.Opening.{masters_first, vertex_here, within_here}

-- there is no list past the last peer
past_list : (lists : List Proxies) (peer : ℕ) → length lists ≤ peer → list_at lists peer ≡ none
past_list lists peer past = get_or_past lists peer none past

-- mirrors that are listed have a proxy here
own_among : (way : Way) (share : Share) (to : ℕ) → All (λ v. is_among (proxies_here share) v ≡ true) (own_reduce way share to)
own_among way share to k d within =
    let here = seen way share in
    let v = get_or (own_reduce way share to) k d in
    let lists : ℕ → Bool = λ u. slice_index_or share.masters u 0 == to && (is_mirror here share.host u && is_writable here share.host u) in
    let below = picked_below (nodes_of share) lists k d within in
    let passes = filter_passes lists (range_with_len 0 (nodes_of share)) k d within in
    let both = and_parts (slice_index_or share.masters v 0 == to) (is_mirror here share.host v && is_writable here share.host v) passes in
    let mirror = and_parts (is_mirror here share.host v) (is_writable here share.host v) both.1 in
    let met = and_parts (not (slice_index_or share.masters v 0 == share.host)) (is_readable here share.host v || is_writable here share.host v) mirror.0 in
    among_proxies way share v below met.1

-- a local number is in a list of local numbers where its vertex is in the list of their vertices
among_locals : (share : Share) (vs : List ℕ) (l : ℕ) → l < length (proxies_here share) → All (λ v. is_among (proxies_here share) v ≡ true) vs
    → is_among (map (lid_of share) vs) l ≡ is_among vs (vertex_at share l)
among_locals share [] l within all = refl
among_locals share (v ∷ vs) l within all =
    ap (λ b. b || is_among (map (lid_of share) vs) l) same_place
    ∙ ap (λ b. nat_eq v (vertex_at share l) || b) (among_locals share vs l within (λ k d inside. all (suc k) d (omega arith)))
  where
    same_place : nat_eq (lid_of share v) l ≡ nat_eq v (vertex_at share l)
    same_place =
        let place = place_is (proxies_here share) v (all 0 v (omega arith)) in
        elim (cases_eq (lid_of share v) l) [
          | inl same ↦ eq-eqb (lid_of share v) l same ∙ sym (eq-eqb v (vertex_at share l) (sym place.here ∙ ap (vertex_at share) same))
          | inr other ↦ ne_eqb (lid_of share v) l other ∙ sym (ne_eqb v (vertex_at share l) (λ equal. other (one_proxy share (lid_of share v) l place.within within (place.here ∙ equal))))
        ]

module _ {Program Item State Shown : Type 0} (host : HostState Program Item State Shown) (is : IsHost host) where
  long_reduces : length host.memo.reduce_to ≡ host.graph.hosts
  long_reduces = is.is_memo.reduce_to_each ∙ is.fits.of_hosts

  long_spreads : length host.memo.spread_to ≡ host.graph.hosts
  long_spreads = is.is_memo.spread_to_each ∙ is.fits.of_hosts

  long_vertices : length host.view.vertices ≡ length (proxies_here host.graph)
  long_vertices = ap length is.vertices_are

  abbrev owner : ℕ → ℕ
  owner l = slice_index_or host.graph.masters (vertex_at host.graph l) 0

  -- ---- masters that are read elsewhere

  pub spreads_within : (peer : ℕ) → All (λ local. local < length host.view.vertices) (list_at host.memo.spread_to peer).locals
  spreads_within peer =
      elim (cases_lt peer host.graph.hosts) [
        | inl there ↦
            subst (λ n. All (λ local. local < n) (list_at host.memo.spread_to peer).locals) (sym long_vertices)
            (locals_here host.graph (list_at host.memo.spread_to peer) (masters_are_here host.graph (list_at host.memo.spread_to peer) (is.fits.spread_to_masters peer (let hosts = is.fits.of_hosts in omega arith))))
        | inr past ↦
            subst (λ (list : Proxies). All (λ local. local < length host.view.vertices) list.locals) (sym (past_list host.memo.spread_to peer (let long = long_spreads in omega arith))) (λ k d inside. absurd (omega arith))
      ]

  pub spreads_short : (peer : ℕ) → length (list_at host.memo.spread_to peer).globals ≤ most_nodes
  spreads_short peer =
      let fit = is.is_share.nodes_fit in
      elim (cases_lt peer host.graph.hosts) [
        | inl there ↦
            let few = few_listed host.graph (list_at host.memo.spread_to peer) (masters_are_here host.graph (list_at host.memo.spread_to peer) (is.fits.spread_to_masters peer (let hosts = is.fits.of_hosts in omega arith))) in
            omega arith
        | inr past ↦
            let empty = ap (λ (list : Proxies). length list.globals) (past_list host.memo.spread_to peer (let long = long_spreads in omega arith)) in
            omega arith
      ]

  -- ---- mirrors that are written here

  own_list : (peer : ℕ) → peer < host.graph.hosts → list_at host.memo.reduce_to peer ≡ proxies_of host.graph (own_reduce host.way host.graph peer)
  own_list peer there = own_reduces host.way host.graph host.memo is.fits peer there

  pub reduces_within : (peer : ℕ) → All (λ local. local < length host.view.vertices) (list_at host.memo.reduce_to peer).locals
  reduces_within peer =
      elim (cases_lt peer host.graph.hosts) [
        | inl there ↦
            subst (λ (list : Proxies). All (λ local. local < length host.view.vertices) list.locals) (sym (own_list peer there))
            (All-map (λ l. l < length host.view.vertices) (lid_of host.graph) (own_reduce host.way host.graph peer)
            (All-weaker (λ v. is_among (proxies_here host.graph) v ≡ true) (λ v. lid_of host.graph v < length host.view.vertices)
            (λ v among. let place = place_is (proxies_here host.graph) v among in let small = place.within in let long = long_vertices in omega arith)
            (own_reduce host.way host.graph peer) (own_among host.way host.graph peer)))
        | inr past ↦
            subst (λ (list : Proxies). All (λ local. local < length host.view.vertices) list.locals) (sym (past_list host.memo.reduce_to peer (let long = long_reduces in omega arith))) (λ k d inside. absurd (omega arith))
      ]

  pub reduces_short : (peer : ℕ) → length (list_at host.memo.reduce_to peer).globals ≤ most_nodes
  reduces_short peer =
      let fit = is.is_share.nodes_fit in
      elim (cases_lt peer host.graph.hosts) [
        | inl there ↦
            let same = ap (λ (list : Proxies). length list.globals) (own_list peer there) in
            let few : length (own_reduce host.way host.graph peer) ≤ length (range_with_len 0 (nodes_of host.graph)) = length_picked _ (range_with_len 0 (nodes_of host.graph)) in
            let all = length-range_with_len 0 (nodes_of host.graph) in
            omega arith
        | inr past ↦
            let empty = ap (λ (list : Proxies). length list.globals) (past_list host.memo.reduce_to peer (let long = long_reduces in omega arith)) in
            omega arith
      ]

  -- whether a proxy is a mirror that is written here
  abbrev sends : ℕ → Bool
  sends l = not (owner l == host.graph.host) && is_writable (seen host.way host.graph) host.graph.host (vertex_at host.graph l)

  -- it is then in the list for the host of its master
  listed_for : (peer l : ℕ) → peer < host.graph.hosts → l < length host.view.vertices → is_among (list_at host.memo.reduce_to peer).locals l ≡ (owner l == peer && sends l)
  listed_for peer l there within =
      let here = seen host.way host.graph in
      let v = vertex_at host.graph l in
      let below : v < nodes_of host.graph = proxies_below host.graph l 0 (within_here host is l within) in
      ap (λ (list : Proxies). is_among list.locals l) (own_list peer there)
      ∙ among_locals host.graph (own_reduce host.way host.graph peer) l (within_here host is l within) (own_among host.way host.graph peer)
      ∙ picked (λ u. slice_index_or host.graph.masters u 0 == peer && (is_mirror here host.graph.host u && is_writable here host.graph.host u)) 0 (nodes_of host.graph) v (omega arith) (omega arith)
      ∙ ap (λ b. owner l == peer && b) (written (not (owner l == host.graph.host)) (is_readable here host.graph.host v) (is_writable here host.graph.host v))
    where
      written : (a r w : Bool) → ((a && (r || w)) && w) ≡ (a && w)
      written true true w = refl
      written true false true = refl
      written true false false = refl
      written false r w = refl

  -- the host of a proxy's master
  owner_there : (l : ℕ) → l < length host.view.vertices → owner l < host.graph.hosts
  owner_there l within =
      let below : vertex_at host.graph l < nodes_of host.graph = proxies_below host.graph l 0 (within_here host is l within) in
      is.is_share.on_hosts (vertex_at host.graph l) 0 below

  -- so the mirrors that are listed are those that the host sends
  listed_sends : (l : ℕ) → l < length host.view.vertices → is_listed host.memo.reduce_to l ≡ sends l
  listed_sends l within = either (sends l) refl
    where
      either : (b : Bool) → sends l ≡ b → is_listed host.memo.reduce_to l ≡ b
      either true sent =
          let there = owner_there l within in
          list_any_at (λ (list : Proxies). is_among list.locals l) host.memo.reduce_to (owner l) none (let long = long_reduces in omega arith)
          (listed_for (owner l) l there within ∙ ap (λ b. b && sends l) (eq-eqb (owner l) (owner l) refl) ∙ sent)
      either false kept =
          list_any_none (λ (list : Proxies). is_among list.locals l) host.memo.reduce_to
          (λ k d inside.
          ap (λ (list : Proxies). is_among list.locals l) (get_or_default host.memo.reduce_to k d none inside)
          ∙ listed_for k l (let long = long_reduces in omega arith) within
          ∙ ap (λ b. owner l == k && b) kept
          ∙ neither (owner l == k))
        where
          neither : (a : Bool) → (a && false) ≡ false
          neither true = refl
          neither false = refl

  pub listed_is_sent : (l : ℕ) → l < length host.view.vertices → is_listed host.memo.reduce_to l ≡ is_sent host l
  listed_is_sent l within =
      listed_sends l within
      ∙ ap (λ b. not b && is_writable (seen host.way host.graph) host.graph.host (vertex_at host.graph l)) (masters_first host.graph l (within_here host is l within) ∙ ap (nat_lt l) (sym is.masters_are))
      ∙ ap (λ b. b && is_writable (seen host.way host.graph) host.graph.host (vertex_at host.graph l)) mirror
      ∙ ap (λ v. nat_le host.view.masters l && is_writable (seen host.way host.graph) host.graph.host v) (sym (vertex_here host is l))
    where
      mirror : not (nat_lt l host.view.masters) ≡ nat_le host.view.masters l
      mirror =
          elim (cases_lt l host.view.masters) [
            | inl low ↦ ap not (lt-ltb l host.view.masters low) ∙ sym (lt-leb host.view.masters l low)
            | inr high ↦ ap not (le-ltb l host.view.masters high) ∙ sym (le-leb host.view.masters l high)
          ]

  -- and none of them is in two lists
  pub reduces_apart : (peer other l : ℕ) → peer ≢ other → is_among (list_at host.memo.reduce_to peer).locals l ≡ true → is_among (list_at host.memo.reduce_to other).locals l ≡ false
  reduces_apart peer other l apart listed =
      elim (cases_lt peer host.graph.hosts) [
        | inr past ↦ absurd (both_ways (is_among (list_at host.memo.reduce_to peer).locals l) (ap (λ (list : Proxies). is_among list.locals l) (past_list host.memo.reduce_to peer (let long = long_reduces in omega arith))) listed)
        | inl there ↦ elim (cases_lt other host.graph.hosts) [
          | inr past ↦ ap (λ (list : Proxies). is_among list.locals l) (past_list host.memo.reduce_to other (let long = long_reduces in omega arith))
          | inl also ↦
              let place = place_is (list_at host.memo.reduce_to peer).locals l listed in
              let inside : slice_index (list_at host.memo.reduce_to peer).locals (place_of (list_at host.memo.reduce_to peer).locals l) < length host.view.vertices = reduces_within peer (place_of (list_at host.memo.reduce_to peer).locals l) 0 place.within in
              let here : slice_index (list_at host.memo.reduce_to peer).locals (place_of (list_at host.memo.reduce_to peer).locals l) ≡ l = place.here in
              let within : l < length host.view.vertices = omega arith in
              let mine : owner l ≡ peer = eqb-true (owner l) peer (and_parts (owner l == peer) (sends l) (sym (listed_for peer l there within) ∙ listed)).0 in
              listed_for other l also within ∙ ap (λ b. b && sends l) (ne_eqb (owner l) other (λ same. apart (sym mine ∙ same)))
        ]
      ]
