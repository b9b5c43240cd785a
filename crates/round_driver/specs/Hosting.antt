-- Hosts as they are made.
use Rattle.std.specs.Prelude.{ℕ}
use Rattle.reduce_laws.specs.ReductionLaws.{Reducer}
use Rattle.reduce_laws.specs.ProgramLaws.{Steps}
use Rattle.graph_model.specs.declared.edge.Way.{Way}
use Rattle.graph_division.specs.Division.{Division}
use Rattle.host_laws.specs.Standing.{IsFresh}
use Rattle.host_state.specs.HostState.{HostState}
use Rattle.host_state.specs.Serving.{run_of, Serves}
use Rattle.round_driver.specs.ClusterState.{IsHostOf}

-- a host of this program and way that is fresh on each divided graph that it serves
pub record IsNewHost {Program Item State Shown : Type 0} (reducer : Reducer Item) (steps : Steps Item State Shown) (item_size shown_size : ℕ) (program : Program) (way : Way) (host : HostState Program Item State Shown) : Type 0 where
  pub is_host_of : IsHostOf program way host
  pub is_fresh : (division : Division) → Serves division host → IsFresh (run_of reducer steps item_size shown_size division) host.view
