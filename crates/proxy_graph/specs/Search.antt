-- In-arcs that are found among the out-arcs of all proxies, from one vertex to the next.
use Rattle.std.specs.Prelude.{◌≡◌, ◌<◌, ℕ, ◌-◌, ◌==◌, List, [], length, map, MatchOption, Option, None, Some}
use Rattle.std.specs.List.{filter, flat_map, range_with_len}
use Rattle.graph_model.specs.declared.edge.Edge.{Edge}
use Rattle.graph_division.specs.Shares.{Share, nodes_of, proxies_here}
use Rattle.proxy_graph.specs.Heads.{lid_of, vertex_at}

-- the weights of those arcs of a run that lead to a proxy
abbrev pub weights_to : (head : ℕ) → List (ℕ × ℕ) → List ℕ
weights_to head run = map (λ arc. arc.1) (filter (λ arc. arc.0 == head) run)

-- the in-arcs of a proxy from the tail of a run
abbrev pub arcs_to : (head tail : ℕ) → List (ℕ × ℕ) → List (ℕ × ℕ)
arcs_to head tail run = map (λ weight. (tail, weight)) (weights_to head run)

-- the in-arcs of a proxy from a vertex
abbrev pub in_arcs_from : Share → (head v : ℕ) → List (ℕ × ℕ)
in_arcs_from share head v =
    map (λ (edge : Edge). (lid_of share edge.src, edge.weight)) (filter (λ edge. edge.dst == vertex_at share head) (filter (λ edge. edge.src == v) share.edges))

-- the in-arcs of a proxy from a vertex and those behind it
abbrev pub in_arcs_since : Share → (head v : ℕ) → List (ℕ × ℕ)
in_arcs_since share head v = flat_map (in_arcs_from share head) (range_with_len v (nodes_of share - v))

-- the out-arcs of a vertex, with its local number, tell which in-arcs come from there; where it has no proxy there
-- are none
abbrev pub TellsInArcs : Share → (v : ℕ) → Option (ℕ × List (ℕ × ℕ)) → Type 0
TellsInArcs share v found = (head : ℕ) → head < length (proxies_here share)
    → MatchOption found (in_arcs_from share head v ≡ []) (λ from. in_arcs_from share head v ≡ arcs_to head from.0 from.1)

-- the in-arcs that a search is still to find, where there is one
abbrev pub found_by : Option (List (ℕ × ℕ)) → List (ℕ × ℕ)
found_by None = []
found_by (Some arcs) = arcs
