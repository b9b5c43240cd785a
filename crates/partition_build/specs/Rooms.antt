-- Edges that were handed out, one list a host, and the shares that are made of them.
use Rattle.std.specs.Prelude.{◌≡◌, ℕ, ◌+◌, ◌<◌, ◌≤◌, nat_lt, ◌==◌, List, [], ◌∷◌, ◌++◌, length, map, All, Vec, slice_index}
use Rattle.std.specs.Global.{Global}
use Rattle.std.specs.List.{filter, slice_index_or, range_with_len}
use Rattle.graph_model.specs.declared.edge.Edge.{Edge}
use Rattle.graph_model.specs.Graph.{Graph, most_edges, IsWithin}
use Rattle.graph_division.specs.Shares.{Share, in_file_order}
use Rattle.share_plan.specs.Plan.{Plan, owner_by}

-- the edges that a host owns
abbrev pub owned_by : (owner : Edge → ℕ) → (host : ℕ) → List Edge → List Edge
owned_by owner host edges = filter (λ edge. owner edge == host) edges

-- the edges in each room
abbrev pub contents : List (Vec Edge Global) → List (List Edge)
contents rooms = map (λ room. room.items) rooms

-- each room gained the edges of its host
pub record HandsOut (owner : Edge → ℕ) (edges : List Edge) (old new : List (Vec Edge Global)) : Type 0 where
  pub as_many : length new ≡ length old
  pub gains : (host : ℕ) → host < length old
      → slice_index_or (contents new) host [] ≡ slice_index_or (contents old) host [] ++ owned_by owner host edges

-- the same, where each edge's owner stands at the edge's place
abbrev pub HandsOutBy : (owners : List ℕ) (edges : List Edge) (old new : List (Vec Edge Global)) → Type 0
HandsOutBy owners edges old new = (owner : Edge → ℕ) → owners ≡ map owner edges → HandsOut owner edges old new

-- there is a room a host, with the edges that the host owns by a plan
pub record AreRooms (plan : Plan) (edges : List Edge) (rooms : List (Vec Edge Global)) : Type 0 where
  pub as_many : length rooms ≡ plan.hosts
  pub owned : (host : ℕ) → host < plan.hosts → slice_index_or (contents rooms) host [] ≡ owned_by (owner_by plan) host edges

-- edges of which a local graph may be made
pub record IsRoom (nodes : ℕ) (room : Vec Edge Global) : Type 0 where
  pub few : length room.items ≤ most_edges
  pub within : All (IsWithin nodes) room.items

-- what a host holds by a plan, with these edges
abbrev pub share_by : Plan → (nodes host : ℕ) → List Edge → Share
share_by plan nodes host edges = record { host = host; hosts = plan.hosts; masters = plan.masters; edges = in_file_order nodes edges }

-- the shares of rooms, the first of which is this host's
abbrev pub shares_from : Plan → (nodes host : ℕ) → List (Vec Edge Global) → List Share
shares_from plan nodes host [] = []
shares_from plan nodes host (room ∷ rooms) = share_by plan nodes host room.items ∷ shares_from plan nodes (host + 1) rooms

-- the edges of a graph whose source has this master
abbrev pub edges_from : Plan → Graph → (host : ℕ) → List Edge
edges_from plan graph host = filter (λ edge. slice_index plan.masters edge.src == host) graph.edges

-- the edges of a graph whose source has a lower master
abbrev pub edges_below : Plan → Graph → (host : ℕ) → List Edge
edges_below plan graph host = filter (λ edge. nat_lt (slice_index plan.masters edge.src) host) graph.edges

-- the shares of the first hosts, where each has the edges whose source has it as the master
abbrev pub shares_by_source : Plan → Graph → (count : ℕ) → List Share
shares_by_source plan graph count = map (λ host. share_by plan graph.nodes host (edges_from plan graph host)) (range_with_len 0 count)
