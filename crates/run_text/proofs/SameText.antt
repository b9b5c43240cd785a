-- Two runs that tell the same have the same text.
use Rattle.std.proofs.Common.{◌≡◌, ℕ, ◌+◌, ◌<◌, ◌↔◌, true, List, [], ◌∷◌, ◌++◌, length, Option, Some, None, refl, sym, ◌∙◌, ap, subst, arith}
use Rattle.std.specs.List.{All, flat_map, range_with_len, sum_by}
use Rattle.std.proofs.lemmas.List.Elements.{All-nil, All-cons, All-head, All-tail, All-weaker, filter_passes}
use Rattle.std.proofs.lemmas.List.Sums.{sum_by-cons}
use Rattle.answer_writer.specs.Lines.{answer_line}
use Rattle.answer_writer.specs.Report.{report_lines}
use Rattle.graph_model.specs.declared.edge.Way.{Way}
use Rattle.graph_division.specs.Division.{Division}
use Rattle.graph_division.specs.Shares.{Share}
use Rattle.graph_division.specs.Partition.{division_of}
use Rattle.round_packets.specs.Runs.{Run}
use Rattle.cluster_laws.specs.Channels.{Channel, is_channel, pairs, channels}
use Rattle.cluster_laws.specs.Channels.Leg.{reduce, broadcast}
use Rattle.cluster_laws.proofs.Counting.{range_below}
use Rattle.cluster_laws.proofs.InTime.{channel_parts}
use Rattle.run_text.specs.Told.{Told}
use Rattle.run_text.specs.Text.{Asked, if_asked, packet_line, round_lines, round_bytes, trace_lines, bytes_sent, answer_lines, report_of, packets_text, whole_text, IsRunText}
use Rattle.run_text.specs.Text.IsRunText.{ends, goes_on}

-- two runs on a division tell the same: the packets of its channels, and where they end the answers of its
-- vertices
pub record TellSame (division : Division) (IsCount : ℕ → Type 0) (told other : Told) : Type 0 where
  pub payloads : (rounds : ℕ) → All (λ channel. told.payload rounds channel ≡ other.payload rounds channel) (channels division)
  pub answers : (rounds v : ℕ) → IsCount rounds → v < division.nodes → told.answer rounds v ≡ other.answer rounds v

-- what holds of all that starts at a host holds of each channel
pub on_channels : {Item State Shown : Type 0} (run : Run Item State Shown) (P : Channel → Type 0) → ((channel : Channel) → channel.from < run.division.hosts → P channel) → All P (channels run.division)
on_channels run P each =
    All-weaker (λ channel. is_channel run.division channel ≡ true) P (λ channel is. each channel (channel_parts run channel is).there)
    (channels run.division) (filter_passes (is_channel run.division) (pairs run.division reduce ++ pairs run.division broadcast))

-- what holds of everything holds of each element
all_of : {X : Type 0} (P : X → Type 0) → ((x : X) → P x) → (xs : List X) → All P xs
all_of P each [] = All-nil P
all_of P each (x ∷ xs) = All-cons P x xs (each x) (all_of P each xs)

-- texts that are the same of each element are the same of the list
each_text : {X : Type 0} (f g : X → List ℕ) (xs : List X) → All (λ x. f x ≡ g x) xs → flat_map f xs ≡ flat_map g xs
each_text f g [] all = refl
each_text f g (x ∷ xs) all =
    ap (λ text. text ++ flat_map f xs) (All-head (λ y. f y ≡ g y) x xs all)
    ∙ ap (λ text. g x ++ text) (each_text f g xs (All-tail (λ y. f y ≡ g y) x xs all))

-- and so are sums
each_sum : {X : Type 0} (f g : X → ℕ) (xs : List X) → All (λ x. f x ≡ g x) xs → sum_by f xs ≡ sum_by g xs
each_sum f g [] all = refl
each_sum f g (x ∷ xs) all =
    sum_by-cons f x xs
    ∙ ap (λ n. n + sum_by f xs) (All-head (λ y. f y ≡ g y) x xs all)
    ∙ ap (λ n. g x + n) (each_sum f g xs (All-tail (λ y. f y ≡ g y) x xs all))
    ∙ sym (sum_by-cons g x xs)

-- a run that tells the same bytes on every channel
abbrev always : List ℕ → Told
always bytes = record { payload = λ rounds channel. bytes; answer = λ rounds v. None }

module _ (division : Division) (IsCount : ℕ → Type 0) (told other : Told) (same : TellSame division IsCount told other) where
  same_round_lines : (rounds : ℕ) → round_lines division told rounds ≡ round_lines division other rounds
  same_round_lines rounds =
      each_text (packet_line division told rounds) (packet_line division other rounds) (channels division)
      (All-weaker (λ channel. told.payload rounds channel ≡ other.payload rounds channel) (λ channel. packet_line division told rounds channel ≡ packet_line division other rounds channel)
      (λ channel is. ap (λ bytes. packet_line division (always bytes) rounds channel) is)
      (channels division) (same.payloads rounds))

  same_round_bytes : (rounds : ℕ) → round_bytes division told rounds ≡ round_bytes division other rounds
  same_round_bytes rounds =
      each_sum (λ channel. length (told.payload rounds channel)) (λ channel. length (other.payload rounds channel)) (channels division)
      (All-weaker (λ channel. told.payload rounds channel ≡ other.payload rounds channel) (λ channel. length (told.payload rounds channel) ≡ length (other.payload rounds channel))
      (λ channel is. ap length is) (channels division) (same.payloads rounds))

  same_trace_lines : (rounds : ℕ) → trace_lines division told rounds ≡ trace_lines division other rounds
  same_trace_lines rounds =
      each_text (round_lines division told) (round_lines division other) (range_with_len 0 rounds)
      (all_of (λ before. round_lines division told before ≡ round_lines division other before) same_round_lines (range_with_len 0 rounds))

  same_bytes_sent : (rounds : ℕ) → bytes_sent division told rounds ≡ bytes_sent division other rounds
  same_bytes_sent rounds =
      each_sum (round_bytes division told) (round_bytes division other) (range_with_len 0 rounds)
      (all_of (λ before. round_bytes division told before ≡ round_bytes division other before) same_round_bytes (range_with_len 0 rounds))

  same_answer_lines : (rounds : ℕ) → IsCount rounds → answer_lines division told rounds ≡ answer_lines division other rounds
  same_answer_lines rounds count =
      each_text (λ v. answer_line v (told.answer rounds v)) (λ v. answer_line v (other.answer rounds v)) (range_with_len 0 division.nodes)
      (All-weaker (λ v. v < division.nodes) (λ v. answer_line v (told.answer rounds v) ≡ answer_line v (other.answer rounds v))
      (λ v below. ap (answer_line v) (same.answers rounds v count below))
      (range_with_len 0 division.nodes) (range_below 0 division.nodes division.nodes (omega arith)))

module _ (asked : Asked) (way : Way) (shares : List Share) (IsCount : ℕ → Type 0) (told other : Told) (same : TellSame (division_of way shares) IsCount told other) where
  same_report : (rounds : ℕ) → report_of asked way shares told rounds ≡ report_of asked way shares other rounds
  same_report rounds = ap (λ bytes. record (report_of asked way shares told rounds) { bytes = bytes }) (same_bytes_sent (division_of way shares) IsCount told other same rounds)

  same_packets_text : (rounds : ℕ) → packets_text asked way shares told rounds ≡ packets_text asked way shares other rounds
  same_packets_text rounds = ap (if_asked asked.trace) (same_trace_lines (division_of way shares) IsCount told other same rounds)

  same_whole_text : (rounds : ℕ) → IsCount rounds → whole_text asked way shares told rounds ≡ whole_text asked way shares other rounds
  same_whole_text rounds count =
      ap (λ text. text ++ (answer_lines (division_of way shares) told rounds ++ if_asked asked.report (report_lines (report_of asked way shares told rounds)))) (same_packets_text rounds)
      ∙ ap (λ text. packets_text asked way shares other rounds ++ (text ++ if_asked asked.report (report_lines (report_of asked way shares told rounds)))) (same_answer_lines (division_of way shares) IsCount told other same rounds count)
      ∙ ap (λ report. packets_text asked way shares other rounds ++ (answer_lines (division_of way shares) other rounds ++ if_asked asked.report (report_lines report))) (same_report rounds)

  -- so the text of one is the text of the other, where they take as many rounds
  pub same_run_text : (IsOther : ℕ → Type 0) → ((rounds : ℕ) → IsCount rounds ↔ IsOther rounds) → (budget : ℕ) (rounds : Option ℕ) (text : List ℕ) → IsRunText IsCount asked way shares told budget rounds text → IsRunText IsOther asked way shares other budget rounds text
  same_run_text IsOther counts budget _ _ (ends rounds count within) =
      subst (IsRunText IsOther asked way shares other budget (Some rounds)) (sym (same_whole_text rounds count)) (ends rounds ((counts rounds).0 count) within)
  same_run_text IsOther counts budget _ _ (goes_on late) =
      subst (IsRunText IsOther asked way shares other budget None) (sym (same_packets_text budget)) (goes_on (λ rounds count. late rounds ((counts rounds).1 count)))
