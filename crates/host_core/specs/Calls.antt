-- What the calls of a host do, as far as it serves the round of a divided graph.
use Rattle.std.specs.Prelude.{◌≡◌, ℕ, List}
use Rattle.reduce_laws.specs.ReductionLaws.{Reducer}
use Rattle.reduce_laws.specs.ProgramLaws.{Steps}
use Rattle.graph_division.specs.Division.{Division}
use Rattle.round_packets.specs.Packets.{bytes_of_packet}
use Rattle.round_packets.specs.RunPackets.{reduce_packet, broadcast_packet}
use Rattle.packet_table.specs.declared.channel_spec.Leg.TheVariants.{Reduce, Spread}
use Rattle.packet_table.specs.Table.{Table}
use Rattle.host_laws.specs.Standing.{StandsFor}
use Rattle.cluster_laws.specs.Steps.{ComputesTo, SpreadsTo, TakesReduceTo, TakesBroadcastTo}
use Rattle.host_state.specs.HostState.{HostState}
use Rattle.host_state.specs.Serving.{run_of}
use Rattle.host_state.specs.Posting.{Posts}

-- the graph, the lists and the way stay
pub record StaysItself {Program Item State Shown : Type 0} (old new : HostState Program Item State Shown) : Type 0 where
  pub same_graph : new.graph ≡ old.graph
  pub same_memo : new.memo ≡ old.memo
  pub same_way : new.way ≡ old.way

module _ {Program Item State Shown : Type 0} (reducer : Reducer Item) (steps : Steps Item State Shown) (item_size shown_size : ℕ) (division : Division) (rounds : ℕ) (old new : HostState Program Item State Shown) where
  -- the host computes in the round after so many: it stands for the same round, and posts its reduce packets
  pub record ComputesIn (item_bytes : Item → List ℕ) (before after : Table) : Type 0 where
    pub becomes : ComputesTo (run_of reducer steps item_size shown_size division) rounds old.view new.view
    pub stands : StandsFor (run_of reducer steps item_size shown_size division) rounds new.view
    pub posts : Posts Reduce old.view.host old.memo.reduce_to
        (λ to. bytes_of_packet item_size item_bytes (reduce_packet (run_of reducer steps item_size shown_size division) rounds old.view.host to))
        before after

  -- the host spreads in it: it stands for the same round, and posts its broadcast packets
  pub record SpreadsIn (shown_bytes : Shown → List ℕ) (before after : Table) : Type 0 where
    pub becomes : SpreadsTo (run_of reducer steps item_size shown_size division) old.view new.view
    pub stands : StandsFor (run_of reducer steps item_size shown_size division) rounds new.view
    pub posts : Posts Spread old.view.host old.memo.spread_to
        (λ to. bytes_of_packet shown_size shown_bytes (broadcast_packet (run_of reducer steps item_size shown_size division) rounds old.view.host to))
        before after

  -- the host takes a host's reduce packet of it, and stands for the same round
  pub record TakesReduceIn (from : ℕ) : Type 0 where
    pub becomes : TakesReduceTo (run_of reducer steps item_size shown_size division) rounds from old.view new.view
    pub stands : StandsFor (run_of reducer steps item_size shown_size division) rounds new.view

  -- the host takes a host's broadcast packet of it, and stands for the same round
  pub record TakesBroadcastIn (from : ℕ) : Type 0 where
    pub becomes : TakesBroadcastTo (run_of reducer steps item_size shown_size division) rounds from old.view new.view
    pub stands : StandsFor (run_of reducer steps item_size shown_size division) rounds new.view
