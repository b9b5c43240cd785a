-- The proxies of a host by local number, as a division that it serves has them.
use Rattle.std.proofs.Common.{◌≡◌, ℕ, ◌-◌, ◌<◌, Bool, true, false, not, ◌&&◌, ◌||◌, ◌==◌, nat_lt, List, length, take, slice_index, refl, sym, ap, ◌∙◌, arith, inl, inr}
use Rattle.std.specs.List.{filter, list_any, range_with_len, slice_index_or}
use Rattle.std.proofs.lemmas.Bool.{cases_lt, eq-eqb, ne_eqb, lt-ltb, le-ltb}
use Rattle.std.proofs.lemmas.List.{take_at}
use Rattle.std.proofs.lemmas.List.Elements.{filter_agree}
use Rattle.std.proofs.lemmas.List.Folds.{list_any-append}
use Rattle.list_laws.specs.Among.{is_among}
use Rattle.graph_model.specs.Arcs.{Arc, arcs_of}
use Rattle.graph_model.specs.declared.edge.Way.{Way}
use Rattle.graph_model.specs.declared.edge.Way.TheVariants.{Outward}
use Rattle.graph_division.specs.Division.{Division}
use Rattle.graph_division.specs.Lists.{is_readable, is_writable, is_mirror, reduce_list, broadcast_list}
use Rattle.graph_division.specs.Shares.{Share, seen, nodes_of, masters_here, mirrors_here, proxies_here}
use Rattle.graph_division.proofs.Listed.{picked}
use Rattle.graph_division.proofs.Partitions.{mirrors_are_of_no_way}
use Rattle.proxy_graph.specs.Heads.{vertex_at}
use Rattle.proxy_graph.proofs.Read.{proxies_below}
use Rattle.address_memo.specs.Memos.{own_reduce, own_spread}
use Rattle.address_memo.proofs.Mirrors.{master_owned, mirror_owned, length_proxies, vertex_of_master, vertex_of_mirror}
use Rattle.host_laws.specs.HostView.{HoldsShare, vertex}
use Rattle.host_state.specs.HostState.{HostState, IsHost}
use Rattle.host_state.specs.Serving.{Serves}

-- masters come first
masters_first : (share : Share) (l : ℕ) → l < length (proxies_here share) → (slice_index_or share.masters (vertex_at share l) 0 == share.host) ≡ nat_lt l (length (masters_here share))
masters_first share l within =
    let m = length (masters_here share) in
    elim (cases_lt l m) [
      | inl low ↦
          eq-eqb (slice_index_or share.masters (vertex_at share l) 0) share.host (ap (λ v. slice_index_or share.masters v 0) (vertex_of_master share l low) ∙ master_owned share l low)
          ∙ sym (lt-ltb l m low)
      | inr high ↦
          let place : l - m < length (mirrors_here share) = omega (arith, length_proxies share) in
          ne_eqb (slice_index_or share.masters (vertex_at share l) 0) share.host (λ same. mirror_owned share (l - m) place (sym (ap (λ v. slice_index_or share.masters v 0) (vertex_of_mirror share l high)) ∙ same))
          ∙ sym (le-ltb l m high)
    ]

-- a vertex that the host's arcs meet has a proxy here
pub among_proxies : (way : Way) (share : Share) (v : ℕ) → v < nodes_of share → (is_readable (seen way share) share.host v || is_writable (seen way share) share.host v) ≡ true → is_among (proxies_here share) v ≡ true
among_proxies way share v below met =
    list_any-append (λ other. other == v) (masters_here share) (mirrors_here share)
    ∙ ap (λ b. b || is_among (mirrors_here share) v) (picked (λ u. slice_index_or share.masters u 0 == share.host) 0 (nodes_of share) v (omega arith) (omega arith))
    ∙ ap (λ b. (slice_index_or share.masters v 0 == share.host) || b) (picked (is_mirror (seen Outward share) share.host) 0 (nodes_of share) v (omega arith) (omega arith)
    ∙ sym (mirrors_are_of_no_way.seen_here way share share.host v)
    ∙ ap (λ b. not (slice_index_or share.masters v 0 == share.host) && b) met)
    ∙ one_of (slice_index_or share.masters v 0 == share.host)
  where
    one_of : (b : Bool) → (b || (not b && true)) ≡ true
    one_of true = refl
    one_of false = refl

module _ {Program Item State Shown : Type 0} (division : Division) (host : HostState Program Item State Shown) (is : IsHost host) (serves : Serves division host) where
  pub arcs_here : division.share host.view.host ≡ arcs_of host.way host.graph.edges
  arcs_here = ap division.share is.of_host ∙ serves.share

  pub readable_here : (v : ℕ) → is_readable division host.view.host v ≡ is_readable (seen host.way host.graph) host.graph.host v
  readable_here v = ap (λ (arcs : List Arc). list_any (λ arc. arc.tail == v) arcs) arcs_here

  pub writable_here : (v : ℕ) → is_writable division host.view.host v ≡ is_writable (seen host.way host.graph) host.graph.host v
  writable_here v = ap (λ (arcs : List Arc). list_any (λ arc. arc.head == v) arcs) arcs_here

  pub mastered_here : (v : ℕ) → (division.master v == host.view.host) ≡ (slice_index_or host.graph.masters v 0 == host.graph.host)
  mastered_here v = ap (λ m. m == host.view.host) (serves.master v) ∙ ap (λ h. slice_index_or host.graph.masters v 0 == h) is.of_host

  mirror_here : (v : ℕ) → is_mirror division host.view.host v ≡ is_mirror (seen host.way host.graph) host.graph.host v
  mirror_here v =
      let met = is_readable division host.view.host v || is_writable division host.view.host v in
      ap (λ b. not b && met) (mastered_here v)
      ∙ ap (λ b. not (slice_index_or host.graph.masters v 0 == host.graph.host) && (b || is_writable division host.view.host v)) (readable_here v)
      ∙ ap (λ b. not (slice_index_or host.graph.masters v 0 == host.graph.host) && (is_readable (seen host.way host.graph) host.graph.host v || b)) (writable_here v)

  -- the lists of its mirrors are those that it sees
  pub reduces_here : (peer : ℕ) → reduce_list division host.view.host peer ≡ own_reduce host.way host.graph peer
  reduces_here peer =
      let here = seen host.way host.graph in
      filter_agree _ (λ v. slice_index_or host.graph.masters v 0 == peer && (is_mirror here host.graph.host v && is_writable here host.graph.host v))
      (λ v. ap (λ m. m == peer && (is_mirror division host.view.host v && is_writable division host.view.host v)) (serves.master v)
      ∙ ap (λ b. slice_index_or host.graph.masters v 0 == peer && (b && is_writable division host.view.host v)) (mirror_here v)
      ∙ ap (λ b. slice_index_or host.graph.masters v 0 == peer && (is_mirror here host.graph.host v && b)) (writable_here v))
      (range_with_len 0 division.nodes)
      ∙ ap (λ n. filter (λ v. slice_index_or host.graph.masters v 0 == peer && (is_mirror here host.graph.host v && is_writable here host.graph.host v)) (range_with_len 0 n)) serves.nodes

  pub broadcasts_here : (peer : ℕ) → broadcast_list division peer host.view.host ≡ own_spread host.way host.graph peer
  broadcasts_here peer =
      let here = seen host.way host.graph in
      filter_agree _ (λ v. slice_index_or host.graph.masters v 0 == peer && (is_mirror here host.graph.host v && is_readable here host.graph.host v))
      (λ v. ap (λ m. m == peer && (is_mirror division host.view.host v && is_readable division host.view.host v)) (serves.master v)
      ∙ ap (λ b. slice_index_or host.graph.masters v 0 == peer && (b && is_readable division host.view.host v)) (mirror_here v)
      ∙ ap (λ b. slice_index_or host.graph.masters v 0 == peer && (is_mirror here host.graph.host v && b)) (readable_here v))
      (range_with_len 0 division.nodes)
      ∙ ap (λ n. filter (λ v. slice_index_or host.graph.masters v 0 == peer && (is_mirror here host.graph.host v && is_readable here host.graph.host v)) (range_with_len 0 n)) serves.nodes

  -- its proxies are those of its graph
  pub vertex_is : (l : ℕ) → vertex host.view l ≡ vertex_at host.graph l
  vertex_is l = ap (λ (vs : List ℕ). slice_index vs l) is.vertices_are

  pub in_proxies : (l : ℕ) → l < length host.view.vertices → l < length (proxies_here host.graph)
  in_proxies l within = let long = ap length is.vertices_are in omega arith

  pub holds_share : HoldsShare division host.view
  holds_share = record {
    is_host = let of_host = is.of_host in let hosts = serves.hosts in let below = is.is_share.is_host in omega arith;
    are_nodes = λ l within.
        let below = proxies_below host.graph l 0 (in_proxies l within) in
        let same = vertex_is l in
        let nodes = serves.nodes in
        omega arith;
    masters_first = λ l within.
        mastered_here (vertex host.view l)
        ∙ ap (λ v. slice_index_or host.graph.masters v 0 == host.graph.host) (vertex_is l)
        ∙ masters_first host.graph l (in_proxies l within)
        ∙ ap (nat_lt l) (sym is.masters_are);
    masters_fit = let many = is.masters_are in let long = ap length is.vertices_are in omega (arith, length_proxies host.graph);
    masters_are =
        ap (λ n. take n host.view.vertices) is.masters_are
        ∙ ap (λ (vs : List ℕ). take (length (masters_here host.graph)) vs) is.vertices_are
        ∙ take_at (masters_here host.graph) (mirrors_here host.graph) (length (masters_here host.graph)) refl
        ∙ sym (filter_agree (λ v. division.master v == host.view.host) (λ v. slice_index_or host.graph.masters v 0 == host.graph.host) mastered_here (range_with_len 0 division.nodes)
        ∙ ap (λ n. filter (λ v. slice_index_or host.graph.masters v 0 == host.graph.host) (range_with_len 0 n)) serves.nodes);
    reduce_by_host = is.took_reduce_fit ∙ sym serves.hosts;
    broadcast_by_host = is.took_broadcast_fit ∙ sym serves.hosts;
  }
