-- The line of a packet.
use Rattle.std.specs.Prelude.{ℕ, List, [], ◌∷◌, ◌++◌, codes}
use Rattle.hex.specs.Hex.{encode_lower}
use Rattle.packet_table.specs.declared.channel_spec.ChannelSpec.{ChannelSpec}
use Rattle.packet_table.specs.declared.channel_spec.Leg.{Leg}
use Rattle.packet_table.specs.declared.channel_spec.Leg.TheVariants.{Reduce, Spread}
use Rattle.answer_writer.specs.Lines.{spaced_number}

-- a leg by its word
abbrev pub leg_word : Leg → List ℕ
leg_word Reduce = codes " reduce"
leg_word Spread = codes " spread"

-- the round, the leg, and the hosts that send and receive
abbrev pub trace_head : ℕ → ChannelSpec → List ℕ
trace_head round spec = codes "round" ++ (spaced_number round ++ (leg_word spec.leg ++ (spaced_number spec.from ++ (spaced_number spec.to ++ codes " "))))

-- then the payload in small hexadecimal digits, and a newline
abbrev pub trace_line : ℕ → ChannelSpec → List ℕ → List ℕ
trace_line round spec payload = trace_head round spec ++ (encode_lower payload ++ 10 ∷ [])
