-- The lines of a round's packets, and of all packets of rounds.
use Rattle.std.proofs.Common.{◌≡◌, ℕ, suc, ◌+◌, ◌-◌, ◌<◌, ◌≤◌, Bool, true, false, List, [], ◌∷◌, ◌++◌, length, map, get_or, refl, ◌∙◌, ap, arith}
use Rattle.std.specs.List.{flat_map, range_with_len}
use Rattle.std.proofs.lemmas.Grind.{flat_map-append}
use Rattle.std.proofs.lemmas.List.{append-nil, length-map, get_or-map}
use Rattle.address_memo.proofs.Filters.{range-append}
use Rattle.answer_writer.specs.Trace.{trace_line}
use Rattle.graph_division.specs.Division.{Division}
use Rattle.graph_division.specs.Shares.{Share}
use Rattle.graph_division.specs.Partition.{division_of}
use Rattle.graph_model.specs.declared.edge.Way.{Way}
use Rattle.packet_table.specs.declared.channel_spec.ChannelSpec.{ChannelSpec}
use Rattle.packet_table.specs.declared.channel_spec.Leg.TheVariants.{Reduce}
use Rattle.packet_table.specs.Table.{Table, payload_of}
use Rattle.cluster_laws.specs.Channels.{Leg, channels}
use Rattle.cluster_laws.specs.Channels.Leg.{reduce, broadcast}
use Rattle.cluster_laws.specs.Numbers.{channel_at}
use Rattle.cluster_laws.specs.Tally.{packets_of}
use Rattle.round_driver.specs.ClusterState.{ClusterState, IsCluster, spec_of, leg_in_table, shares_of}
use Rattle.run_text.specs.Told.{Told}
use Rattle.run_text.specs.Text.{if_asked, packet_line, round_lines, trace_lines}
use Rattle.run_text.specs.Lines.{channel_line}
use Rattle.run_engine.proofs.Going.{range-more}

-- texts of numbers in a row are those of a list's elements, where they agree place by place
texts_by_place : {X : Type 0} (by_number : ℕ → List ℕ) (by_element : X → List ℕ) (d : X) (xs : List X) (first : ℕ) → ((k : ℕ) → k < length xs → by_number (first + k) ≡ by_element (get_or xs k d)) → flat_map by_number (range_with_len first (length xs)) ≡ flat_map by_element xs
texts_by_place by_number by_element d [] first same = refl
texts_by_place by_number by_element d (x ∷ xs) first same =
    let here : first ≡ first + 0 = omega arith in
    ap (λ text. text ++ flat_map by_number (range_with_len (first + 1) (length xs))) (ap by_number here ∙ same 0 (omega arith))
    ∙ ap (λ rest. by_element x ++ rest) (texts_by_place by_number by_element d xs (first + 1) (λ k within.
    let next : (first + 1) + k ≡ first + suc k = omega arith in
    ap by_number next ∙ same (suc k) (omega arith)))

-- the line of a packet, as a table names its channel
line_of_leg : (division : Division) (told : Told) (before : ℕ) (leg : Leg) (from to room : ℕ) → trace_line (suc before) (record { leg = leg_in_table leg; from = from; to = to; room = room }) (told.payload before (record { leg = leg; from = from; to = to })) ≡ packet_line division told before (record { leg = leg; from = from; to = to })
line_of_leg division told before reduce from to room = refl
line_of_leg division told before broadcast from to room = refl

module _ (item_size shown_size : ℕ) (division : Division) (told : Told) (before : ℕ) (table : Table) (are : table.specs ≡ map (spec_of item_size shown_size division) (channels division))
    (payloads : (number : ℕ) → number < packets_of division → payload_of table number ≡ told.payload before (channel_at division number)) where
  line_there : (number : ℕ) → number < length (channels division) → channel_line (suc before) table (0 + number) ≡ packet_line division told before (channel_at division number)
  line_there number within =
      let same : 0 + number ≡ number = omega arith in
      let channel = channel_at division number in
      let spec : get_or table.specs number (record { leg = Reduce; from = 0; to = 0; room = 0 }) ≡ spec_of item_size shown_size division channel
      = ap (λ (l : List ChannelSpec). get_or l number (record { leg = Reduce; from = 0; to = 0; room = 0 })) are
      ∙ get_or-map (spec_of item_size shown_size division) (channels division) number (record { leg = reduce; from = 0; to = 0 }) (record { leg = Reduce; from = 0; to = 0; room = 0 }) within in
      ap (channel_line (suc before) table) same
      ∙ ap (λ (s : ChannelSpec). trace_line (suc before) s (payload_of table number)) spec
      ∙ ap (trace_line (suc before) (spec_of item_size shown_size division channel)) (payloads number within)
      ∙ line_of_leg division told before channel.leg channel.from channel.to (spec_of item_size shown_size division channel).room

  -- the lines of all channels are those of the round's packets
  pub lines_are : (round : ℕ) → round ≡ before + 1 → flat_map (channel_line round table) (range_with_len 0 (length table.specs)) ≡ round_lines division told before
  lines_are round is =
      let same : round ≡ suc before = omega arith in
      let many : length table.specs ≡ length (channels division) = ap (λ (l : List ChannelSpec). length l) are ∙ length-map (channels division) (spec_of item_size shown_size division) in
      ap (λ n. flat_map (channel_line n table) (range_with_len 0 (length table.specs))) same
      ∙ ap (λ n. flat_map (channel_line (suc before) table) (range_with_len 0 n)) many
      ∙ texts_by_place (channel_line (suc before) table) (packet_line division told before) (record { leg = reduce; from = 0; to = 0 }) (channels division) 0 line_there

-- the channels of a cluster
pub channels_of_plan : {Program Item State Shown : Type 0} (item_size shown_size : ℕ) (cluster : ClusterState Program Item State Shown) (way : Way) (shares : List Share) → IsCluster item_size shown_size cluster → shares_of cluster ≡ shares → cluster.way ≡ way
    → cluster.table.specs ≡ map (spec_of item_size shown_size (division_of way shares)) (channels (division_of way shares))
channels_of_plan item_size shown_size cluster way shares is same_shares same_way =
    is.channels_are
    ∙ ap (λ (division : Division). map (spec_of item_size shown_size division) (channels division)) (ap (λ w. division_of w (shares_of cluster)) same_way ∙ ap (division_of way) same_shares)

-- one more round is told
pub told_one_more : (trace : Bool) (division : Division) (told : Told) (rounds : ℕ) → if_asked trace (trace_lines division told (rounds + 1)) ≡ if_asked trace (trace_lines division told rounds) ++ if_asked trace (round_lines division told rounds)
told_one_more true division told rounds =
    ap (flat_map (round_lines division told)) (range-more rounds)
    ∙ flat_map-append (round_lines division told) (range_with_len 0 rounds) (rounds ∷ [])
    ∙ ap (λ rest. flat_map (round_lines division told) (range_with_len 0 rounds) ++ rest) (append-nil (round_lines division told rounds))
told_one_more false division told rounds = refl

-- what so many rounds tell, and then more
pub told_more : (trace : Bool) (division : Division) (told : Told) (some all : ℕ) → some ≤ all → (rest : List ℕ) × (if_asked trace (trace_lines division told all) ≡ if_asked trace (trace_lines division told some) ++ rest)
told_more true division told some all fewer =
    let count : all ≡ some + (all - some) = omega arith in (
      flat_map (round_lines division told) (range_with_len (0 + some) (all - some)),
      ap (λ n. flat_map (round_lines division told) (range_with_len 0 n)) count
          ∙ ap (flat_map (round_lines division told)) (range-append 0 some (all - some))
          ∙ flat_map-append (round_lines division told) (range_with_len 0 some) (range_with_len (0 + some) (all - some)),
    )
told_more false division told some all fewer = ([], refl)
