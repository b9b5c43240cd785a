-- Hosts and clusters once the next round begins.
use Rattle.std.specs.Prelude.{◌+◌, map}
use Rattle.host_laws.specs.Effects.{closed}
use Rattle.host_state.specs.HostState.{HostState}
use Rattle.round_driver.specs.ClusterState.{ClusterState}

abbrev pub closed_host : {Program Item State Shown : Type 0} → HostState Program Item State Shown → HostState Program Item State Shown
closed_host host = record host { view = closed host.view }

abbrev pub closed_cluster : {Program Item State Shown : Type 0} → ClusterState Program Item State Shown → ClusterState Program Item State Shown
closed_cluster cluster = record cluster { round = cluster.round + 1; hosts = map closed_host cluster.hosts }
