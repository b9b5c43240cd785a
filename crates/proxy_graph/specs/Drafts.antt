-- What a draft of a local graph holds of its share.
use Rattle.std.specs.Prelude.{◌≡◌, ◌↔◌, ℕ, ◌+◌, ◌<◌, ◌≤◌, Bool, List, map, slice_index}
use Rattle.std.specs.List.{All}
use Rattle.graph_model.specs.Graph.{IsWithin}
use Rattle.graph_division.specs.Shares.{Share, IsShare, nodes_of}
use Rattle.proxy_graph.specs.Numbering.{AreMarks, AreNumbered}
use Rattle.proxy_graph.specs.Sides.{Out, key_of, end_of}
use Rattle.proxy_graph.specs.declared.draft.Draft.{Draft}

-- masters lie in a row, ends of edges have marks, and the vertices that are hosted or have a mark are numbered
pub record AreProxies (share : Share) (first count : ℕ) (marks : List Bool) (table mirrors : List ℕ) : Type 0 where
  pub within : All (IsWithin (nodes_of share)) share.edges
  pub vertices : (v : ℕ) → v < nodes_of share → (slice_index share.masters v ≡ share.host) ↔ ((first ≤ v) × (v < first + count))
  pub row : first + count ≤ nodes_of share
  pub marked : AreMarks (nodes_of share) share.edges marks
  pub numbered : AreNumbered first count marks (nodes_of share) table mirrors

-- the fields are those of the share, and a table of local numbers gives the columns from its edges
pub record IsDraftOf (share : Share) (draft : Draft) : Type 0 where
  pub is_share : IsShare share
  pub host : draft.host ≡ share.host
  pub hosts : draft.masters.hosts ≡ share.hosts
  pub masters : draft.masters.masters ≡ share.masters
  pub nodes : draft.nodes ≡ nodes_of share
  pub marks : List Bool
  pub table : List ℕ
  pub proxies : AreProxies share draft.first draft.count marks table draft.mirrors.items
  pub tails : draft.columns.tails.items ≡ map (key_of Out table) share.edges
  pub heads : draft.columns.heads.items ≡ map (end_of Out table) share.edges
  pub weights : draft.columns.weights.items ≡ map (λ edge. edge.weight) share.edges

-- there is a share that this is a draft of
pub record IsDraft (draft : Draft) : Type 0 where
  pub share : Share
  pub of_share : IsDraftOf share draft
