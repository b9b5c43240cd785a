-- The ends of a host's arcs have proxies there, and a proxy is told by its local number.
use Rattle.std.proofs.Common.{◌≡◌, ℕ, ◌^◌, ◌<◌, Bool, true, false, not, ◌&&◌, ◌||◌, ◌==◌, nat_eq, length, map, get_or, refl, sym, ap, ◌∙◌, arith, inl, inr}
use Rattle.std.specs.List.{All, slice_index_or}
use Rattle.std.proofs.lemmas.Bool.{eq-eqb, ne_eqb, cases_lt, cases_eq, or_left, or_right}
use Rattle.std.proofs.lemmas.List.Elements.{All-map, All-append, All-weaker}
use Rattle.std.proofs.lemmas.List.Folds.{list_any_at, list_any-append}
use Rattle.std.proofs.lemmas.List.Sums.{position_or_len_is}
use Rattle.list_laws.specs.Among.{is_among}
use Rattle.graph_model.specs.Arcs.{Arc, out_arc, in_arc, arcs_of}
use Rattle.graph_model.specs.declared.edge.Edge.{Edge}
use Rattle.graph_model.specs.declared.edge.Way.{Way}
use Rattle.graph_model.specs.declared.edge.Way.TheVariants.{Outward, Inward, Both}
use Rattle.graph_division.specs.Lists.{is_mirror, is_readable, is_writable}
use Rattle.graph_division.specs.Shares.{Share, IsShare, nodes_of, seen, masters_here, mirrors_here, proxies_here}
use Rattle.graph_division.proofs.Listed.{picked}
use Rattle.graph_division.proofs.Partitions.{list_any-made}
use Rattle.proxy_graph.specs.Heads.{vertex_at, lid_of}
use Rattle.proxy_graph.specs.Numbering.{IsLidOf}
use Rattle.proxy_graph.proofs.Lids.{place_is}
use Rattle.address_memo.proofs.Mirrors.{masters_rise, rise_by_place, vertex_of_master, lid_of_vertex}

-- a vertex has a proxy here, which has its local number
abbrev pub HasProxy : Share → (v : ℕ) → Type 0
HasProxy share v = IsLidOf (proxies_here share) v (lid_of share v)

-- both ends of an arc have proxies here, and its weight has four bytes
pub record IsHere (share : Share) (arc : Arc) : Type 0 where
  pub tail : HasProxy share arc.tail
  pub head : HasProxy share arc.head
  pub weight_fits : arc.weight < 2 ^ 32

record IsEdgeHere (share : Share) (edge : Edge) : Type 0 where
  source : HasProxy share edge.src
  destination : HasProxy share edge.dst
  fits : edge.weight < 2 ^ 32

master_or_mirror : (m e : Bool) → e ≡ true → (m || (not m && e)) ≡ true
master_or_mirror true e h = refl
master_or_mirror false e h = h

module _ (share : Share) where
  -- an end of an arc is a master or a mirror
  end_here : (v : ℕ) → v < nodes_of share → (is_readable (seen Outward share) share.host v || is_writable (seen Outward share) share.host v) ≡ true → HasProxy share v
  end_here v known end =
      place_is (proxies_here share) v
      (list_any-append (λ other. nat_eq other v) (masters_here share) (mirrors_here share)
      ∙ ap (λ b. b || is_among (mirrors_here share) v) (picked (λ u. slice_index_or share.masters u 0 == share.host) 0 (nodes_of share) v (omega arith) (omega arith))
      ∙ ap (λ b. (slice_index_or share.masters v 0 == share.host) || b) (picked (is_mirror (seen Outward share) share.host) 0 (nodes_of share) v (omega arith) (omega arith))
      ∙ master_or_mirror (slice_index_or share.masters v 0 == share.host) (is_readable (seen Outward share) share.host v || is_writable (seen Outward share) share.host v) end)

  module _ (is : IsShare share) where
    edges_here : All (IsEdgeHere share) share.edges
    edges_here k d within =
        let edge : Edge = get_or share.edges k d in
        record {
          source = end_here edge.src (is.within k d within).0
              (or_left (is_readable (seen Outward share) share.host edge.src) (is_writable (seen Outward share) share.host edge.src)
              (list_any-made (λ arc. arc.tail == edge.src) out_arc share.edges ∙ list_any_at (λ other. other.src == edge.src) share.edges k d within (eq-eqb edge.src edge.src refl)));
          destination = end_here edge.dst (is.within k d within).1
              (or_right (is_readable (seen Outward share) share.host edge.dst) (is_writable (seen Outward share) share.host edge.dst)
              (list_any-made (λ arc. arc.head == edge.dst) out_arc share.edges ∙ list_any_at (λ other. other.dst == edge.dst) share.edges k d within (eq-eqb edge.dst edge.dst refl)));
          fits = is.weighed k d within;
        }

    out_arcs_here : All (IsHere share) (map out_arc share.edges)
    out_arcs_here =
        All-map (IsHere share) out_arc share.edges
        (All-weaker (IsEdgeHere share) (λ edge. IsHere share (out_arc edge)) (λ edge fact. record { tail = fact.source; head = fact.destination; weight_fits = fact.fits }) share.edges edges_here)

    in_arcs_here : All (IsHere share) (map in_arc share.edges)
    in_arcs_here =
        All-map (IsHere share) in_arc share.edges
        (All-weaker (IsEdgeHere share) (λ edge. IsHere share (in_arc edge)) (λ edge fact. record { tail = fact.destination; head = fact.source; weight_fits = fact.fits }) share.edges edges_here)

    -- the ends of each arc have proxies here
    pub arcs_here : (way : Way) → All (IsHere share) (arcs_of way share.edges)
    arcs_here Outward = out_arcs_here
    arcs_here Inward = in_arcs_here
    arcs_here Both = All-append (IsHere share) (map out_arc share.edges) (map in_arc share.edges) out_arcs_here in_arcs_here

  -- ---- by local number

  -- the local number of a master is read back from its vertex
  lid_of_master : (lid : ℕ) → lid < length (masters_here share) → lid < length (proxies_here share) → lid_of share (vertex_at share lid) ≡ lid
  lid_of_master lid low within =
      position_or_len_is (λ other. nat_eq other (vertex_at share lid)) (proxies_here share) lid 0 (omega arith)
      (λ k before. ne_eqb (vertex_at share k) (vertex_at share lid) (λ same.
      let up = rise_by_place (masters_here share) k lid (masters_rise share) before low in
      omega (arith, up, same, vertex_of_master share k (omega arith), vertex_of_master share lid low)))
      (λ here. eq-eqb (vertex_at share lid) (vertex_at share lid) refl)

  -- so is that of each proxy
  pub lid_back : (lid : ℕ) → lid < length (proxies_here share) → lid_of share (vertex_at share lid) ≡ lid
  lid_back lid within = elim (cases_lt lid (length (masters_here share))) [ inl low ↦ lid_of_master lid low within | inr high ↦ lid_of_vertex share lid high within ]

  -- to ask for a vertex is to ask for its local number
  pub vertex_test : (v lid : ℕ) → HasProxy share v → lid < length (proxies_here share) → (v == vertex_at share lid) ≡ (lid_of share v == lid)
  vertex_test v lid has within = elim (cases_eq (lid_of share v) lid) [
    | inl same ↦ eq-eqb v (vertex_at share lid) (sym has.here ∙ ap (vertex_at share) same) ∙ sym (eq-eqb (lid_of share v) lid same)
    | inr other ↦ ne_eqb v (vertex_at share lid) (λ e. other (ap (lid_of share) e ∙ lid_back lid within)) ∙ sym (ne_eqb (lid_of share v) lid other)
  ]
