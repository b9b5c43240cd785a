-- What a host's own arcs bring to a vertex: the items along those arcs whose tails are awake on the host.
use Rattle.std.specs.Prelude.{◌≡◌, ◌<◌, ◌≤◌, ◌==◌, ◌&&◌, ℕ, Bool, false, not, List, length}
use Rattle.std.specs.List.{filter, slice_index_or}
use Rattle.list_laws.specs.Members.{has_member}
use Rattle.graph_model.specs.Arcs.{Arc, arcs_of}
use Rattle.graph_model.specs.declared.edge.Way.{Way}
use Rattle.reduce_laws.specs.ReductionLaws.{Reducer, combined}
use Rattle.reduce_laws.specs.ProgramLaws.{Steps}
use Rattle.graph_division.specs.Shares.{Share, masters_here, proxies_here}
use Rattle.proxy_graph.specs.Heads.{vertex_at, lid_of}

-- whether an arc leads to a vertex from a tail that is awake; the set goes by local number
abbrev pub is_live : Share → (awake : List Bool) → ℕ → Arc → Bool
is_live share awake v arc = arc.head == v && has_member awake (lid_of share arc.tail)

module _ {Item State Shown : Type 0} (reducer : Reducer Item) (steps : Steps Item State Shown) (share : Share) (way : Way) (shown : List Shown) (awake : List Bool) where
  -- what goes along an arc; shown values go by local number, and `none` stands where there is none
  abbrev pub sent_along : Shown → Arc → Item
  sent_along none arc = steps.along (slice_index_or shown (lid_of share arc.tail) none) arc.weight

  -- the items along the live arcs to a vertex, combined
  unfoldable pub gained : Shown → ℕ → Item
  gained none v = combined reducer (sent_along none) (filter (is_live share awake v) (arcs_of way share.edges))

  -- Items once all live arcs have brought theirs, and which proxies have news: exactly the mirrors whose item
  -- changed, and at least the masters whose item did or that had news before.
  pub record Gains (items : List Item) (news : List Bool) (new_items : List Item) (new_news : List Bool) : Type 0 where
    pub long : length new_items ≡ length items
    pub gains : (l : ℕ) (d : Item) (none : Shown) → l < length (proxies_here share)
        → slice_index_or new_items l d ≡ reducer.combine (slice_index_or items l d) (gained none (vertex_at share l))
    pub news_long : length new_news ≡ length news
    pub grew : (l : ℕ) (d : Item) → length (masters_here share) ≤ l → l < length (proxies_here share)
        → has_member new_news l ≡ not (reducer.same (slice_index_or new_items l d) (slice_index_or items l d))
    pub untouched : (l : ℕ) (d : Item) → l < length (masters_here share) → has_member new_news l ≡ false
        → (has_member news l ≡ false) × (slice_index_or new_items l d ≡ slice_index_or items l d)
