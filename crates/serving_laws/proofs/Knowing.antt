-- What a host knows of a division that it serves.
use Rattle.std.proofs.Common.{◌≡◌, ℕ, zero, suc, ◌+◌, ◌<◌, Bool, true, false, not, ◌&&◌, ◌||◌, ◌==◌, List, [], ◌∷◌, get_or, refl, sym, ap, ◌∙◌, arith}
use Rattle.std.specs.List.{list_any, range_with_len, slice_index_or}
use Rattle.std.proofs.lemmas.Bool.{both_ways, and_parts, and_from, or_parts, or_from, not_from_true, not_from_false, not-true, eqb-true, eq-eqb}
use Rattle.std.proofs.lemmas.List.Elements.{All-same}
use Rattle.std.proofs.lemmas.List.Folds.{list_any_at}
use Rattle.std.proofs.lemmas.List.FromFn.{get_or-map-range_with_len}
use Rattle.list_laws.specs.Among.{is_among, place_of}
use Rattle.graph_division.specs.Division.{Division}
use Rattle.graph_division.specs.Lists.{is_readable, is_writable, is_mirror, reduce_list, broadcast_list}
use Rattle.graph_division.specs.Shares.{seen}
use Rattle.graph_division.proofs.Listed.{picked}
use Rattle.graph_division.proofs.PrunedLists.{lists_rise}
use Rattle.proxy_graph.proofs.Lids.{place_is}
use Rattle.address_memo.specs.Memos.{Proxies, none, list_at, proxies_of, own_reduce, own_spread}
use Rattle.host_laws.specs.Standing.{IsDone, HasAllReduced, NoneIsWritten}
use Rattle.cluster_laws.specs.Channels.{is_needed}
use Rattle.cluster_laws.specs.Cluster.{expects_reduce}
use Rattle.cluster_laws.proofs.InTime.{needed_from, none_passes, none_together, not_missing}
use Rattle.host_state.specs.HostState.{HostState, IsHost}
use Rattle.host_state.specs.Serving.{Serves}
use Rattle.host_state.specs.OwnEffects.{expects, is_ready_to_close, NoneIsSent}
use Rattle.serving_laws.specs.Laws.{Knows, ServingKnows}
use Rattle.serving_laws.proofs.Proxies.{readable_here, writable_here, reduces_here, broadcasts_here, holds_share}

-- tests of a range that agree on it
any_range_same : (p q : ℕ → Bool) (first count : ℕ) → ((k : ℕ) → k < first + count → p k ≡ q k) → list_any p (range_with_len first count) ≡ list_any q (range_with_len first count)
any_range_same p q first zero same = refl
any_range_same p q first (suc count) same =
    ap (λ b. b || list_any p (range_with_len (first + 1) count)) (same first (omega arith))
    ∙ ap (λ b. q first || b) (any_range_same p q (first + 1) count (λ k less. same k (omega arith)))

-- a list that is needed has a vertex in it
needed_has : (ids : List ℕ) → is_needed ids ≡ true → (v : ℕ) × (is_among ids v ≡ true)
needed_has [] h = absurd (both_ways false refl h)
needed_has (x ∷ ids) h = (x, ap (λ b. b || is_among ids x) (eq-eqb x x refl))

-- what is there where it is needed is not missing
missing_none : (a b : Bool) → (a ≡ true → b ≡ true) → (a && not b) ≡ false
missing_none true b there = not_from_true b (there refl)
missing_none false b there = refl

module _ {Program Item State Shown : Type 0} (division : Division) (host : HostState Program Item State Shown) (is : IsHost host) (serves : Serves division host) where
  -- its own lists with a peer, as its memo has them
  reduce_to : (peer : ℕ) → peer < host.graph.hosts → (list_at host.memo.reduce_to peer).globals ≡ reduce_list division host.view.host peer
  reduce_to peer below =
      ap (λ (lists : List Proxies). (list_at lists peer).globals) is.fits.reduce_to_own
      ∙ ap (λ (list : Proxies). list.globals) (get_or-map-range_with_len (λ other. proxies_of host.graph (own_reduce host.way host.graph other)) 0 host.graph.hosts peer peer none below (omega arith))
      ∙ sym (reduces_here division host is serves peer)

  spread_from : (peer : ℕ) → peer < host.graph.hosts → (list_at host.memo.spread_from peer).globals ≡ broadcast_list division peer host.view.host
  spread_from peer below =
      ap (λ (lists : List Proxies). (list_at lists peer).globals) is.fits.spread_from_own
      ∙ ap (λ (list : Proxies). list.globals) (get_or-map-range_with_len (λ other. proxies_of host.graph (own_spread host.way host.graph other)) 0 host.graph.hosts peer peer none below (omega arith))
      ∙ sym (broadcasts_here division host is serves peer)

  -- and those that it was told
  reduce_from : (peer : ℕ) → peer < host.graph.hosts → (list_at host.memo.reduce_from peer).globals ≡ reduce_list division peer host.view.host
  reduce_from peer below = serves.reduce_from peer below ∙ ap (reduce_list division peer) (sym is.of_host)

  spread_to : (peer : ℕ) → peer < host.graph.hosts → (list_at host.memo.spread_to peer).globals ≡ broadcast_list division host.view.host peer
  spread_to peer below = serves.spread_to peer below ∙ ap (λ h. broadcast_list division h peer) (sym is.of_host)

  expects_same : expects host host.memo.reduce_from host.view.took_reduce ≡ expects_reduce division host.view
  expects_same =
      any_range_same _ (λ from. is_needed (reduce_list division from host.view.host) && not (slice_index_or host.view.took_reduce from false)) 0 host.graph.hosts
      (λ k less. ap (λ (ids : List ℕ). is_needed ids && not (slice_index_or host.view.took_reduce k false)) (reduce_from k (omega arith)))
      ∙ ap (λ n. list_any (λ from. is_needed (reduce_list division from host.view.host) && not (slice_index_or host.view.took_reduce from false)) (range_with_len 0 n)) (sym serves.hosts)

  -- all that is expected of some lists was taken
  taken : (lists : List Proxies) (took : List Bool) (from v : ℕ) → expects host lists took ≡ false → from < host.graph.hosts → is_among (list_at lists from).globals v ≡ true → slice_index_or took from false ≡ true
  taken lists took from v nothing there listed =
      not_missing (is_needed (list_at lists from).globals) (slice_index_or took from false)
      (none_passes (λ a. is_needed (list_at lists a).globals && not (slice_index_or took a false)) 0 host.graph.hosts from nothing (omega arith) (omega arith))
      (needed_from (list_at lists from).globals v listed)

  -- and the other way round
  expects_none : (lists : List Proxies) (took : List Bool) → ((from v : ℕ) → from < host.graph.hosts → is_among (list_at lists from).globals v ≡ true → slice_index_or took from false ≡ true) → expects host lists took ≡ false
  expects_none lists took all =
      none_together (λ a. is_needed (list_at lists a).globals && not (slice_index_or took a false)) 0 host.graph.hosts
      (λ k less. missing_none (is_needed (list_at lists k).globals) (slice_index_or took k false)
      (λ some. let one = needed_has (list_at lists k).globals some in all k one.0 (omega arith) one.1))

  -- a mirror that is read is told of by the host of its master
  told_by : (v : ℕ) → v < division.nodes → is_among (broadcast_list division (division.master v) host.view.host) v ≡ (not (division.master v == host.view.host) && is_readable division host.view.host v)
  told_by v below =
      picked (λ u. division.master u == division.master v && (is_mirror division host.view.host u && is_readable division host.view.host u)) 0 division.nodes v (omega arith) (omega arith)
      ∙ ap (λ b. b && (is_mirror division host.view.host v && is_readable division host.view.host v)) (eq-eqb (division.master v) (division.master v) refl)
      ∙ read_mirror (not (division.master v == host.view.host)) (is_readable division host.view.host v) (is_writable division host.view.host v)
    where
      read_mirror : (a r w : Bool) → ((a && (r || w)) && r) ≡ (a && r)
      read_mirror true true w = refl
      read_mirror true false true = refl
      read_mirror true false false = refl
      read_mirror false r w = refl

  all_done : is_ready_to_close host ≡ true → HasAllReduced division host.view × IsDone division host.view
  all_done ready =
      let parts = and_parts (host.view.has_computed && host.view.has_spread) _ ready in
      let did = and_parts host.view.has_computed host.view.has_spread parts.0 in
      let nothing = or_parts (expects host host.memo.reduce_from host.view.took_reduce) (expects host host.memo.spread_from host.view.took_broadcast) (not-true _ parts.1) in (
        λ from v there listed.
            let below : from < host.graph.hosts = let hosts = serves.hosts in omega arith in
            taken host.memo.reduce_from host.view.took_reduce from v nothing.0 below (ap (λ (ids : List ℕ). is_among ids v) (reduce_from from below) ∙ listed),
        record {
          computed = did.0;
          spread = did.1;
          told = λ v below away read.
              let from = division.master v in
              let there : from < host.graph.hosts = let nodes = serves.nodes in let master = serves.master v in let on = is.is_share.on_hosts v 0 (omega arith) in omega arith in
              let listed : is_among (broadcast_list division from host.view.host) v ≡ true
              = told_by v below ∙ and_from (not (division.master v == host.view.host)) (is_readable division host.view.host v) (not_from_false (division.master v == host.view.host) away) read in
              taken host.memo.spread_from host.view.took_broadcast from v nothing.1 there (ap (λ (ids : List ℕ). is_among ids v) (spread_from from there) ∙ listed);
        },
      )

  -- whoever stands in the broadcast list of a host has its master there, and a mirror here that is read
  listed_parts : (from v : ℕ) → is_among (broadcast_list division from host.view.host) v ≡ true → (v < division.nodes) × ((division.master v ≡ from) × (((division.master v == host.view.host) ≡ false) × (is_readable division host.view.host v ≡ true)))
  listed_parts from v listed =
      let ids = broadcast_list division from host.view.host in
      let place = place_is ids v listed in
      let within : v < division.nodes = let below = (lists_rise division from host.view.host).1.1 (place_of ids v) 0 place.within in let here = place.here in omega arith in
      let passes : (division.master v == from && (is_mirror division host.view.host v && is_readable division host.view.host v)) ≡ true
      = sym (picked (λ u. division.master u == from && (is_mirror division host.view.host u && is_readable division host.view.host u)) 0 division.nodes v (omega arith) (omega arith)) ∙ listed in
      let parts = and_parts (division.master v == from) _ passes in
      let both = and_parts (is_mirror division host.view.host v) (is_readable division host.view.host v) parts.1 in
      let away = and_parts (not (division.master v == host.view.host)) _ both.0 in
      (within, (eqb-true (division.master v) from parts.0, (not-true (division.master v == host.view.host) away.0, both.1)))

  done_closes : HasAllReduced division host.view × IsDone division host.view → is_ready_to_close host ≡ true
  done_closes done =
      and_from (host.view.has_computed && host.view.has_spread) _
      (and_from host.view.has_computed host.view.has_spread done.1.computed done.1.spread)
      (not_from_false _ (or_from (expects host host.memo.reduce_from host.view.took_reduce) (expects host host.memo.spread_from host.view.took_broadcast)
      (expects_none host.memo.reduce_from host.view.took_reduce (λ from v there listed.
      done.0 from v (let hosts = serves.hosts in omega arith) (ap (λ (ids : List ℕ). is_among ids v) (sym (reduce_from from there)) ∙ listed)))
      (expects_none host.memo.spread_from host.view.took_broadcast (λ from v there listed.
      let parts = listed_parts from v (ap (λ (ids : List ℕ). is_among ids v) (sym (spread_from from there)) ∙ listed) in
      ap (λ h. slice_index_or host.view.took_broadcast h false) (sym parts.1.0) ∙ done.1.told v parts.0 parts.1.1.0 parts.1.1.1))))

  none_written : (from : ℕ) → from < host.graph.hosts → NoneIsSent host from → NoneIsWritten division from host.view
  none_written from there sent v below listed =
      let ids = (list_at host.memo.spread_from from).globals in
      let place = place_is ids v (ap (λ (l : List ℕ). is_among l v) (spread_from from there) ∙ listed) in
      writable_here division host is serves v ∙ ap (is_writable (seen host.way host.graph) host.graph.host) (sym place.here) ∙ sent (place_of ids v) 0 place.within

  none_sent : (from : ℕ) → from < host.graph.hosts → NoneIsWritten division from host.view → NoneIsSent host from
  none_sent from there written =
      All-same (λ v. is_writable (seen host.way host.graph) host.graph.host v ≡ false) (list_at host.memo.spread_from from).globals (broadcast_list division from host.view.host) (spread_from from there)
      (λ k d within.
      let ids = broadcast_list division from host.view.host in
      let v = get_or ids k d in
      let listed : is_among ids v ≡ true = list_any_at (λ other. other == v) ids k d within (eq-eqb v v refl) in
      sym (writable_here division host is serves v) ∙ written v (listed_parts from v listed).0 listed)

  pub knows : Knows division host
  knows = record {
    share = holds_share division host is serves;
    readable = readable_here division host is serves;
    writable = writable_here division host is serves;
    reduce_to = reduce_to;
    reduce_from = reduce_from;
    spread_to = spread_to;
    spread_from = spread_from;
    ready_to_spread = ap (λ b. host.view.has_computed && not (host.view.has_spread || b)) expects_same;
    ready_to_close = (all_done, done_closes);
    none_is_sent = λ from there. (none_written from there, none_sent from there);
  }

pub serving_knows : (Program Item State Shown : Type 0) → ServingKnows Program Item State Shown
serving_knows Program Item State Shown division host is serves = knows division host is serves
