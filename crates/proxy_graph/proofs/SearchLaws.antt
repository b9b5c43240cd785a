-- The out-arcs of all proxies, from one vertex to the next, have each in-arc of a proxy once and in its place.
use Rattle.std.proofs.Common.{◌≡◌, ℕ, suc, ◌+◌, ◌-◌, ◌<◌, ◌≤◌, true, false, Bool, cond, ◌==◌, List, [], ◌∷◌, ◌++◌, length, map, refl, sym, ◌∙◌, ap, arith, inl, inr}
use Rattle.std.specs.List.{All, filter, flat_map, range_with_len}
use Rattle.std.proofs.lemmas.Bool.{eq-eqb, ne_eqb, cases_eq}
use Rattle.std.proofs.lemmas.Bool.Decides.{eqb_tells}
use Rattle.std.proofs.lemmas.List.{map-append}
use Rattle.std.proofs.lemmas.List.Elements.{All-head, All-tail, All-weaker, filter-append}
use Rattle.list_laws.specs.Among.{is_among}
use Rattle.graph_model.specs.Arcs.{Arc, out_arc, in_arc}
use Rattle.graph_model.specs.declared.edge.Edge.{Edge}
use Rattle.graph_model.specs.declared.edge.Way.TheVariants.{Outward, Inward}
use Rattle.graph_division.specs.Shares.{Share, IsShare, nodes_of, proxies_here}
use Rattle.graph_division.proofs.FileOrder.{filter_none, file_order_stays}
use Rattle.proxy_graph.specs.Heads.{lid_of, vertex_at, heads_from}
use Rattle.proxy_graph.specs.Kept.{AreLids}
use Rattle.proxy_graph.specs.Numbering.{IsLidOf}
use Rattle.proxy_graph.specs.Search.{in_arcs_from, in_arcs_since, arcs_to}
use Rattle.proxy_graph.proofs.Lids.{place_is}

-- an edge as the in-arc that it gives
abbrev pub back_pair : Share → Edge → ℕ × ℕ
back_pair share edge = (lid_of share edge.src, edge.weight)

-- what passes in lists one after another
passing_parts : {X Y : Type 0} (f : X → Y) (p : X → Bool) (part : ℕ → List X) (vs : List ℕ) → map f (filter p (flat_map part vs)) ≡ flat_map (λ v. map f (filter p (part v))) vs
passing_parts f p part [] = refl
passing_parts f p part (v ∷ vs) =
    ap (map f) (filter-append p (part v) (flat_map part vs))
    ∙ map-append f (filter p (part v)) (filter p (flat_map part vs))
    ∙ ap (λ xs. map f (filter p (part v)) ++ xs) (passing_parts f p part vs)

module _ (share : Share) (head : ℕ) where
  -- the in-arcs of a proxy as edges
  as_edges : (edges : List Edge) → map (λ (arc : Arc). (lid_of share arc.head, arc.weight)) (filter (λ arc. arc.tail == vertex_at share head) (map in_arc edges)) ≡ map (back_pair share) (filter (λ edge. edge.dst == vertex_at share head) edges)
  as_edges [] = refl
  as_edges (edge ∷ edges) = step (edge.dst == vertex_at share head) (as_edges edges)
    where
      step : (b : Bool) → map (λ (arc : Arc). (lid_of share arc.head, arc.weight)) (filter (λ arc. arc.tail == vertex_at share head) (map in_arc edges)) ≡ map (back_pair share) (filter (λ edge. edge.dst == vertex_at share head) edges)
          → map (λ (arc : Arc). (lid_of share arc.head, arc.weight)) (cond b (in_arc edge ∷ filter (λ arc. arc.tail == vertex_at share head) (map in_arc edges)) (filter (λ arc. arc.tail == vertex_at share head) (map in_arc edges)))
          ≡ map (back_pair share) (cond b (edge ∷ filter (λ edge. edge.dst == vertex_at share head) edges) (filter (λ edge. edge.dst == vertex_at share head) edges))
      step true rest = ap (λ xs. back_pair share edge ∷ xs) rest
      step false rest = rest

  -- from the first vertex on they are all
  pub all_in_arcs : IsShare share → in_arcs_since share head 0 ≡ heads_from Inward share head
  all_in_arcs is =
      let n = nodes_of share in
      let whole : n - 0 ≡ n = omega arith in
      ap (λ (k : ℕ). flat_map (in_arcs_from share head) (range_with_len 0 k)) whole
      ∙ sym (passing_parts (back_pair share) (λ edge. edge.dst == vertex_at share head) (λ v. filter (λ edge. edge.src == v) share.edges) (range_with_len 0 n))
      ∙ ap (λ es. map (back_pair share) (filter (λ edge. edge.dst == vertex_at share head) es)) (file_order_stays n share.edges is.within is.by_source)
      ∙ sym (as_edges share.edges)

  -- those from a vertex come first
  pub next_vertex : (v : ℕ) → v < nodes_of share → in_arcs_since share head v ≡ in_arcs_from share head v ++ in_arcs_since share head (v + 1)
  next_vertex v within =
      let rest : nodes_of share - v ≡ suc (nodes_of share - (v + 1)) = omega arith in
      ap (λ (k : ℕ). flat_map (in_arcs_from share head) (range_with_len v k)) rest

  -- behind the last vertex there are none
  pub no_vertex : (v : ℕ) → nodes_of share ≤ v → in_arcs_since share head v ≡ []
  no_vertex v behind =
      let none : nodes_of share - v ≡ 0 = omega arith in
      ap (λ (k : ℕ). flat_map (in_arcs_from share head) (range_with_len v k)) none

  -- a vertex without a proxy is the tail of none
  pub no_tail : AreLids share → (v : ℕ) → is_among (proxies_here share) v ≡ false → in_arcs_from share head v ≡ []
  no_tail lids v missing =
      ap (λ es. map (back_pair share) (filter (λ edge. edge.dst == vertex_at share head) es))
      (filter_none (λ edge. edge.src == v) share.edges
      (All-weaker (λ edge. is_among (proxies_here share) edge.src ≡ true) (λ (edge : Edge). (edge.src == v) ≡ false)
      (λ edge among. ne_eqb edge.src v (λ same. let is : is_among (proxies_here share) v ≡ true = ap (is_among (proxies_here share)) (sym same) ∙ among in cc)) share.edges lids.sources))

  module _ (lids : AreLids share) (known : head < length (proxies_here share)) where
    -- to ask for the vertex is to ask for its local number
    leads_here : (v : ℕ) → is_among (proxies_here share) v ≡ true → (v == vertex_at share head) ≡ (lid_of share v == head)
    leads_here v among =
        let is = place_is (proxies_here share) v among in
        elim (cases_eq (lid_of share v) head) [
          | inl same ↦ eq-eqb v (vertex_at share head) (sym is.here ∙ ap (vertex_at share) same) ∙ sym (eq-eqb (lid_of share v) head same)
          | inr other ↦ ne_eqb v (vertex_at share head) (λ e. other (lids.only v head (record { within = known; here = sym e }))) ∙ sym (ne_eqb (lid_of share v) head other)
        ]

    module _ (v tail : ℕ) (is_tail : IsLidOf (proxies_here share) v tail) where
      abbrev out_pairs : List Edge → List (ℕ × ℕ)
      out_pairs edges = map (λ (arc : Arc). (lid_of share arc.head, arc.weight)) (filter (λ arc. arc.tail == v) (map out_arc edges))

      abbrev back_pairs : List Edge → List (ℕ × ℕ)
      back_pairs edges = map (back_pair share) (filter (λ edge. edge.dst == vertex_at share head) (filter (λ edge. edge.src == v) edges))

      -- an edge from there leads here, or not
      led : (edge : Edge) (edges : List Edge) → edge.src ≡ v → is_among (proxies_here share) edge.dst ≡ true → back_pairs edges ≡ arcs_to head tail (out_pairs edges)
          → map (back_pair share) (filter (λ edge. edge.dst == vertex_at share head) (edge ∷ filter (λ edge. edge.src == v) edges)) ≡ arcs_to head tail ((lid_of share edge.dst, edge.weight) ∷ out_pairs edges)
      led edge edges from among rest =
          ap (λ b. map (back_pair share) (cond b (edge ∷ passed) passed)) (leads_here edge.dst among)
          ∙ step (lid_of share edge.dst == head)
        where
          passed : List Edge
          passed = filter (λ edge. edge.dst == vertex_at share head) (filter (λ edge. edge.src == v) edges)

          own : lid_of share edge.src ≡ tail
          own = ap (lid_of share) from ∙ lids.only v tail is_tail

          step : (b : Bool) → map (back_pair share) (cond b (edge ∷ passed) passed)
              ≡ map (λ (w : ℕ). (tail, w)) (map (λ (arc : ℕ × ℕ). arc.1) (cond b ((lid_of share edge.dst, edge.weight) ∷ filter (λ (arc : ℕ × ℕ). arc.0 == head) (out_pairs edges)) (filter (λ (arc : ℕ × ℕ). arc.0 == head) (out_pairs edges))))
          step true = ap (λ (l : ℕ). (l, edge.weight) ∷ map (back_pair share) passed) own ∙ ap (λ xs. (tail, edge.weight) ∷ xs) rest
          step false = rest

      -- one edge more
      told : (edge : Edge) (edges : List Edge) → is_among (proxies_here share) edge.dst ≡ true → back_pairs edges ≡ arcs_to head tail (out_pairs edges) → back_pairs (edge ∷ edges) ≡ arcs_to head tail (out_pairs (edge ∷ edges))
      told edge edges among rest = elim (eqb_tells edge.src v) [
        | inl same ↦ ap (λ b. map (back_pair share) (filter (λ edge. edge.dst == vertex_at share head) (cond b (edge ∷ filter (λ edge. edge.src == v) edges) (filter (λ edge. edge.src == v) edges)))) same.0
            ∙ led edge edges same.1 among rest
            ∙ ap (λ b. arcs_to head tail (map (λ (arc : Arc). (lid_of share arc.head, arc.weight)) (cond b (out_arc edge ∷ outs) outs))) (sym same.0)
        | inr other ↦ ap (λ b. map (back_pair share) (filter (λ edge. edge.dst == vertex_at share head) (cond b (edge ∷ filter (λ edge. edge.src == v) edges) (filter (λ edge. edge.src == v) edges)))) other.0
            ∙ rest
            ∙ ap (λ b. arcs_to head tail (map (λ (arc : Arc). (lid_of share arc.head, arc.weight)) (cond b (out_arc edge ∷ outs) outs))) (sym other.0)
      ]
        where
          outs : List Arc
          outs = filter (λ arc. arc.tail == v) (map out_arc edges)

      tells : (edges : List Edge) → All (λ edge. is_among (proxies_here share) edge.dst ≡ true) edges → back_pairs edges ≡ arcs_to head tail (out_pairs edges)
      tells [] among = refl
      tells (edge ∷ edges) among =
          told edge edges (All-head (λ e. is_among (proxies_here share) e.dst ≡ true) edge edges among) (tells edges (All-tail (λ e. is_among (proxies_here share) e.dst ≡ true) edge edges among))

      -- the out-arcs of a proxy tell the in-arcs that come from there
      pub tail_tells : in_arcs_from share head v ≡ arcs_to head tail (heads_from Outward share tail)
      tail_tells =
          tells share.edges lids.destinations
          ∙ ap (λ (u : ℕ). arcs_to head tail (map (λ (arc : Arc). (lid_of share arc.head, arc.weight)) (filter (λ arc. arc.tail == u) (map out_arc share.edges)))) (sym is_tail.here)
