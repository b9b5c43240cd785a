-- Which events may come next, as the hosts and the channels tell it.
use Rattle.std.specs.Prelude.{ℕ, ◌+◌, Bool, not, List, map}
use Rattle.list_laws.specs.Members.{count_of}
use Rattle.packet_table.specs.Table.{Table}
use Rattle.host_state.specs.HostState.{HostState}
use Rattle.host_state.specs.OwnEffects.{is_ready_to_spread}
use Rattle.round_driver.specs.declared.choosing.Doing.{Doing}
use Rattle.round_driver.specs.declared.choosing.Doing.TheVariants.{Compute, Spread}

module _ {Program Item State Shown : Type 0} where
  -- whether a host may do this next
  abbrev pub may_do : Doing → HostState Program Item State Shown → Bool
  may_do Compute host = not host.view.has_computed
  may_do Spread host = is_ready_to_spread host

  -- the numbers of the hosts that may
  abbrev pub who_may : Doing → List (HostState Program Item State Shown) → List Bool
  who_may doing hosts = map (may_do doing) hosts

  -- how many events may come next
  abbrev pub choices : List (HostState Program Item State Shown) → Table → ℕ
  choices hosts table = count_of (who_may Compute hosts) + (count_of (who_may Spread hosts) + count_of table.flying)
