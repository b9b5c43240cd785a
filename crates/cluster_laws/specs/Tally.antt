-- What a round comes to: packets, their bytes, and vertices that show something new.
use Rattle.std.specs.Prelude.{ℕ, suc, Bool, not, List, length, take}
use Rattle.std.specs.List.{range_with_len, sum_by, count_by}
use Rattle.graph_division.specs.Division.{Division}
use Rattle.round_packets.specs.Runs.{Run, shows}
use Rattle.host_laws.specs.HostView.{HostView}
use Rattle.cluster_laws.specs.Channels.{channels, payload}

-- the number of packets of a round: one for each channel
abbrev pub packets_of : Division → ℕ
packets_of division = length (channels division)

-- the number of bytes of all packets of the round after so many
abbrev pub bytes_of_round : {Item State Shown : Type 0} → (Item → List ℕ) → (Shown → List ℕ) → Run Item State Shown → (rounds : ℕ) → ℕ
bytes_of_round item_bytes shown_bytes run rounds = sum_by (λ channel. length (payload item_bytes shown_bytes run rounds channel)) (channels run.division)

-- whether a vertex shows something new after the round that follows so many
abbrev pub changes : {Item State Shown : Type 0} → Run Item State Shown → (rounds v : ℕ) → Bool
changes run rounds v = not (run.steps.same (shows run rounds v) (shows run (suc rounds) v))

-- how many vertices do
abbrev pub changed : {Item State Shown : Type 0} → Run Item State Shown → (rounds : ℕ) → ℕ
changed run rounds = count_by (changes run rounds) (range_with_len 0 run.division.nodes)

-- how many masters of a host are awake in the next round
abbrev pub woken : {Program Item State Shown : Type 0} → HostView Program Item State Shown → ℕ
woken view = count_by (λ awake. awake) (take view.masters view.awake_next)
