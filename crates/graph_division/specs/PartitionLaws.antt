-- Laws of partitions: they divide their graph, and what a host sees of itself is right of the whole.
use Rattle.std.specs.Prelude.{◌≡◌, ◌<◌, ℕ, List, length, slice_get, Some}
use Rattle.graph_model.specs.declared.edge.Way.{Way}
use Rattle.graph_model.specs.declared.edge.Way.TheVariants.{Outward}
use Rattle.graph_division.specs.Division.{IsDivision}
use Rattle.graph_division.specs.Lists.{is_readable, is_writable, is_mirror, reduce_list, broadcast_list}
use Rattle.graph_division.specs.Shares.{Share, IsShare, nodes_of, seen}
use Rattle.graph_division.specs.Partition.{IsPartition, masters_of_all, edges_at, division_of}

-- a partition divides its graph among its hosts, whichever way edges are followed
abbrev pub PartitionsDivide : Type 0
PartitionsDivide = (way : Way) (shares : List Share) → IsPartition shares → IsDivision (division_of way shares)

-- the share of a host is that host's, and what it shows of this host is what the whole division has there
pub record ShowsItself (way : Way) (shares : List Share) (host : ℕ) (share : Share) : Type 0 where
  pub is_share : IsShare share
  pub of_host : share.host ≡ host
  pub is_host : host < length shares
  pub nodes : nodes_of share ≡ length (masters_of_all shares)
  pub hosts : share.hosts ≡ length shares
  pub masters : share.masters ≡ masters_of_all shares
  pub edges : share.edges ≡ edges_at shares host
  pub readable : (v : ℕ) → is_readable (seen way share) share.host v ≡ is_readable (division_of way shares) host v
  pub writable : (v : ℕ) → is_writable (seen way share) share.host v ≡ is_writable (division_of way shares) host v
  pub mirror : (v : ℕ) → is_mirror (seen way share) share.host v ≡ is_mirror (division_of way shares) host v
  pub reduces : (to : ℕ) → reduce_list (seen way share) share.host to ≡ reduce_list (division_of way shares) host to
  pub broadcasts : (from : ℕ) → broadcast_list (seen way share) from share.host ≡ broadcast_list (division_of way shares) from host

-- each host of a partition has a share that shows it as it is
abbrev pub HostsSeeThemselves : Type 0
HostsSeeThemselves =
    (way : Way) (shares : List Share) (host : ℕ) (share : Share)
    → IsPartition shares → slice_get shares host ≡ Some share → ShowsItself way shares host share

-- whether a vertex has a mirror on a host does not depend on how edges are followed
pub record MirrorsAreOfNoWay : Type 0 where
  pub seen_here : (way : Way) (share : Share) (host v : ℕ) → is_mirror (seen way share) host v ≡ is_mirror (seen Outward share) host v
  pub of_all : (way : Way) (shares : List Share) (host v : ℕ) → is_mirror (division_of way shares) host v ≡ is_mirror (division_of Outward shares) host v
