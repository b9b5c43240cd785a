-- Where the mirrors of a host begin whose masters are on one host or above it.
use Rattle.std.specs.Prelude.{◌<◌, ◌≤◌, ℕ, length}
use Rattle.std.specs.List.{slice_index_or}
use Rattle.graph_division.specs.Shares.{Share, masters_here, proxies_here}
use Rattle.proxy_graph.specs.Heads.{vertex_at}

-- the host of a proxy's master
abbrev pub owner_at : Share → (lid : ℕ) → ℕ
owner_at share lid = slice_index_or share.masters (vertex_at share lid) 0

-- mirrors below the place have their masters on lower hosts than this one, those from the place on have not
pub record IsStartOf (share : Share) (peer place : ℕ) : Type 0 where
  pub since_masters : length (masters_here share) ≤ place
  pub within : place ≤ length (proxies_here share)
  pub below : (lid : ℕ) → length (masters_here share) ≤ lid → lid < place → owner_at share lid < peer
  pub above : (lid : ℕ) → place ≤ lid → lid < length (proxies_here share) → peer ≤ owner_at share lid
