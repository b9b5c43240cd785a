-- The arcs of a host as its local graph lends them: by tail, as the head's local number and the weight.
use Rattle.std.specs.Prelude.{ℕ, ◌==◌, List, map, slice_index}
use Rattle.std.specs.List.{filter}
use Rattle.list_laws.specs.Among.{place_of}
use Rattle.graph_model.specs.Arcs.{arcs_of}
use Rattle.graph_model.specs.declared.edge.Way.{Way}
use Rattle.graph_division.specs.Shares.{Share, proxies_here}

-- the vertex of a proxy
abbrev pub vertex_at : Share → ℕ → ℕ
vertex_at share lid = slice_index (proxies_here share) lid

-- the local number of a vertex that has a proxy here
abbrev pub lid_of : Share → ℕ → ℕ
lid_of share v = place_of (proxies_here share) v

-- the arcs of a host out of a proxy: for each the local number of its head and its weight, those of
-- out-edges in file order first, then those of in-edges
abbrev pub heads_from : Way → Share → (tail : ℕ) → List (ℕ × ℕ)
heads_from way share tail =
    map (λ arc. (lid_of share arc.head, arc.weight)) (filter (λ arc. arc.tail == vertex_at share tail) (arcs_of way share.edges))

-- the arcs of a share that are lent, followed in a way
pub record Lent : Type 0 where
  pub way : Way
  pub share : Share
