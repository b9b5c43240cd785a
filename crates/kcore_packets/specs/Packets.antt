-- The packets of k-core in the words of peeling. The arcs that peeling counts are those of the whole graph.
use Rattle.std.specs.Prelude.{ℕ, suc, nat_lt, if◌then◌else◌, List}
use Rattle.graph_model.specs.Arcs.{Arc}
use Rattle.graph_model.specs.Peeling.{peel}
use Rattle.graph_division.specs.Division.{Division}
use Rattle.graph_division.specs.Lists.{reduce_list, broadcast_list}
use Rattle.kcore_program.specs.Tallies.{leaves, tally}
use Rattle.round_packets.specs.Packets.{Packet}

-- what mirrors on one host send to their masters on another in the round after so many: the tallies that
-- are above 0
abbrev pub tally_packet : (k : ℕ) → List Arc → Division → (rounds from to : ℕ) → Packet ℕ
tally_packet k arcs division rounds from to = record {
  ids = reduce_list division from to;
  updated = λ v. nat_lt 0 (tally k division.nodes arcs (division.share from) rounds v);
  value = tally k division.nodes arcs (division.share from) rounds;
}

-- what masters on one host tell their mirrors on another in it: who leaves, with 0 for who is left after
-- it and 1 for who is not
abbrev pub leaving_packet : (k : ℕ) → List Arc → Division → (rounds from to : ℕ) → Packet ℕ
leaving_packet k arcs division rounds from to = record {
  ids = broadcast_list division from to;
  updated = leaves k division.nodes arcs rounds;
  value = λ v. if peel k division.nodes arcs (suc rounds) v then 0 else 1;
}
