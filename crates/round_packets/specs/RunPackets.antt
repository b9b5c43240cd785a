-- The packets of a round, and what mirrors keep between rounds.
use Rattle.std.specs.Prelude.{ℕ, zero, suc, not, if◌then◌else◌, List}
use Rattle.std.specs.List.{filter}
use Rattle.reduce_laws.specs.ReductionLaws.{combined}
use Rattle.graph_division.specs.Division.{hosts_of}
use Rattle.graph_division.specs.Lists.{reduce_list, broadcast_list}
use Rattle.round_packets.specs.Runs.{Run, shows, contribution}
use Rattle.round_packets.specs.Packets.{Packet, carries}

-- what one host tells another in the round after so many: which of its masters show something new
abbrev pub broadcast_packet : {Item State Shown : Type 0} → Run Item State Shown → (rounds from to : ℕ) → Packet Shown
broadcast_packet run rounds from to = record {
  ids = broadcast_list run.division from to;
  updated = λ v. not (run.steps.same (shows run rounds v) (shows run (suc rounds) v));
  value = shows run (suc rounds);
}

-- the item that a mirror keeps on a host after so many rounds. At first it is what the vertex's start
-- tells. Then, where items are kept, it is what a broadcast told, or else what was gathered before; and
-- where they are not, it is the identity.
unfoldable pub kept : {Item State Shown : Type 0} → Run Item State Shown → (rounds host v : ℕ) → Item
kept run zero host v = run.steps.keep (shows run 0 v)
kept run (suc rounds) host v =
    if run.reducer.keeps
    then (if carries run.shown_size (broadcast_packet run rounds (run.division.master v) host) v
    then run.steps.keep (shows run (suc rounds) v)
    else run.reducer.combine (kept run rounds host v) (contribution run rounds host v))
    else run.reducer.identity

-- the item that a mirror has gathered once its host has computed in the round after so many
abbrev pub gathered : {Item State Shown : Type 0} → Run Item State Shown → (rounds host v : ℕ) → Item
gathered run rounds host v = run.reducer.combine (kept run rounds host v) (contribution run rounds host v)

-- what one host sends to another in the round after so many: which of its mirrors gathered something new
abbrev pub reduce_packet : {Item State Shown : Type 0} → Run Item State Shown → (rounds from to : ℕ) → Packet Item
reduce_packet run rounds from to = record {
  ids = reduce_list run.division from to;
  updated = λ v. not (run.reducer.same (gathered run rounds from v) (kept run rounds from v));
  value = gathered run rounds from;
}

-- the hosts whose reduce packet to the host of a vertex's master carries the vertex
abbrev pub senders : {Item State Shown : Type 0} → Run Item State Shown → (rounds v : ℕ) → List ℕ
senders run rounds v =
    filter (λ host. carries run.item_size (reduce_packet run rounds host (run.division.master v)) v) (hosts_of run.division)

-- the item that a master is given in the round after so many: what its own host's arcs contribute,
-- combined with the value of each packet that carries the vertex
abbrev pub given : {Item State Shown : Type 0} → Run Item State Shown → (rounds v : ℕ) → Item
given run rounds v =
    run.reducer.combine (contribution run rounds (run.division.master v) v) (combined run.reducer (λ host. gathered run rounds host v) (senders run rounds v))
