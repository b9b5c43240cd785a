-- A graph that is divided among hosts: each arc is on a host, and each vertex has its master on one.
use Rattle.std.specs.Prelude.{◌<◌, ◌≤◌, ◌^◌, ℕ, List, All}
use Rattle.std.specs.List.{flat_map, range_with_len}
use Rattle.graph_model.specs.Arcs.{Arc}
use Rattle.graph_division.specs.ProgramArcs.{IsArcOf}

-- vertices and hosts are the numbers below `nodes` and below `hosts`
pub record Division : Type 0 where
  pub nodes : ℕ
  pub hosts : ℕ
  -- the arcs that are on a host
  pub share : ℕ → List Arc
  -- the host on which a vertex has its master
  pub master : ℕ → ℕ

-- what holds of every division
pub record IsDivision (division : Division) : Type 0 where
  pub few : division.nodes ≤ 2 ^ 32
  pub within : (host : ℕ) → All (IsArcOf division.nodes) (division.share host)
  pub mastered : (v : ℕ) → v < division.nodes → division.master v < division.hosts

-- the hosts by number
abbrev pub hosts_of : Division → List ℕ
hosts_of division = range_with_len 0 division.hosts

-- the arcs of the whole graph, host after host
abbrev pub whole : Division → List Arc
whole division = flat_map division.share (hosts_of division)
