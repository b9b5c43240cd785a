-- How vertices get their local numbers: those whose master is here by their place in the row, and others that have
-- a mark by how many come before.
use Rattle.std.specs.Prelude.{◌≡◌, ℕ, ◌+◌, ◌-◌, ◌<◌, ◌≤◌, ◌==◌, nat_le, nat_lt, Bool, true, not, cond, ◌&&◌, ◌||◌, List, ◌++◌, length, map, take, slice_index}
use Rattle.std.specs.List.{filter, list_any, range_with_len}
use Rattle.list_laws.specs.Members.{has_member, count_of}
use Rattle.graph_model.specs.Graph.{most_nodes}
use Rattle.graph_model.specs.declared.edge.Edge.{Edge}
use Rattle.proxy_graph.specs.declared.numbering.Numbering.{Numbering}

-- whether v is among the vertices in a row whose master is here
abbrev pub is_hosted : (first count v : ℕ) → Bool
is_hosted first count v = nat_le first v && nat_lt (v - first) count

-- whether v is an end of one of the edges
abbrev pub is_end : List Edge → ℕ → Bool
is_end edges v = list_any (λ edge. edge.src == v || edge.dst == v) edges

-- the ends of edges have marks, and other vertices have none
pub record AreMarks (nodes : ℕ) (edges : List Edge) (marks : List Bool) : Type 0 where
  pub long : length marks ≡ nodes
  pub marks_are : (v : ℕ) → v < nodes → has_member marks v ≡ is_end edges v

-- whether v has a mark and its master is elsewhere
abbrev pub is_mirrored : (first count : ℕ) (marks : List Bool) → ℕ → Bool
is_mirrored first count marks v = not (is_hosted first count v) && has_member marks v

-- a proxy's local number
pub record IsLidOf (proxies : List ℕ) (v lid : ℕ) : Type 0 where
  pub within : lid < length proxies
  pub here : slice_index proxies lid ≡ v

-- numbered are the vertices whose master is here, and then the others below `end` that have a mark
pub record AreNumbered (first count : ℕ) (marks : List Bool) (end : ℕ) (table mirrors : List ℕ) : Type 0 where
  pub long : length table ≡ length marks
  pub mirrors_are : mirrors ≡ filter (is_mirrored first count marks) (range_with_len 0 end)
  pub hosted : (v : ℕ) → is_hosted first count v ≡ true → IsLidOf (range_with_len first count ++ mirrors) v (slice_index table v)
  pub marked : (v : ℕ) → v < end → has_member marks v ≡ true → IsLidOf (range_with_len first count ++ mirrors) v (slice_index table v)

-- the numbers are those of the vertices in a row whose master is here, and of the others that have a mark
pub record Numbers (first count : ℕ) (marks : List Bool) (numbering : Numbering) : Type 0 where
  pub begins : numbering.first ≡ first
  pub hosted : numbering.count ≡ count
  pub row : first + count ≤ length marks
  pub few : length marks ≤ most_nodes
  pub long : length numbering.mirrored ≡ length marks
  pub mirrored : (v : ℕ) → v < length marks → has_member numbering.mirrored v ≡ is_mirrored first count marks v

-- the number of a vertex: its place in the row, or behind the row how many mirrors come before it
abbrev pub number_of : Numbering → ℕ → ℕ
number_of numbering v = cond (is_hosted numbering.first numbering.count v) (v - numbering.first) (numbering.count + count_of (take v numbering.mirrored))

-- the numbers of all vertices
unfoldable pub table_of : Numbering → List ℕ
table_of numbering = map (number_of numbering) (range_with_len 0 (length numbering.mirrored))
