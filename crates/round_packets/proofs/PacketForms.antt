-- The packets of a round are well formed for their lists.
use Rattle.std.proofs.Common.{◌≡◌, ℕ, zero, suc, ◌+◌, ◌<◌, ◌≤◌, true, false, Bool, cond, ◌&&◌, ◌==◌, List, slice_index, refl, ◌∙◌, arith}
use Rattle.std.specs.List.{All, filter, range_with_len}
use Rattle.std.proofs.lemmas.List.{length-map}
use Rattle.std.proofs.lemmas.List.Elements.{All-filter, All-map, All-weaker, All-nil, All-cons}
use Rattle.field_encodings.specs.Lengths.{form_length, sent_tag, shortest_tag}
use Rattle.round_packets.specs.Runs.{shows}
use Rattle.graph_division.specs.Lists.{is_readable, is_writable, is_mirror, reduce_list, broadcast_list}
use Rattle.graph_division.proofs.PrunedLists.{picked_below}
use Rattle.round_packets.specs.RunPackets.{gathered}
use Rattle.round_packets.proofs.Shares.{shows_value}
use Rattle.round_packets.proofs.Absorbing.{gathered_is_value}
use Rattle.round_packets.specs.Laws.{ReducesAreForms, BroadcastsAreForms}

-- no tag that is sent is above 3
tag_fits : (positions updated greatest size : ℕ) → sent_tag positions updated greatest size ≤ 3
unfolding sent_tag
tag_fits positions updated greatest size = either (positions == 0)
  where
    of_four : (a b c : Bool) → cond a 0 (cond b 1 (cond c 2 3)) ≤ 3
    of_four true b c = omega arith
    of_four false true c = omega arith
    of_four false false true = omega arith
    of_four false false false = omega arith

    either : (none : Bool) → cond none 3 (shortest_tag (form_length positions updated greatest size)) ≤ 3
    either true = omega arith
    either false = of_four _ _ _

module _ {Item State Shown : Type 0} {IsItem : Item → Type 0} {IsShown : Shown → Type 0} {IsState : State → Type 0} where
  pub reduces_are_forms : (item_bytes : Item → List ℕ) → ReducesAreForms IsItem IsShown IsState item_bytes
  reduces_are_forms item_bytes run rounds from to fact = record {
    is_tag = tag_fits _ _ _ _;
    mark_for_each = length-map (reduce_list run.division from to) _;
    value_for_each = length-map (reduce_list run.division from to) _;
    are_values = All-map IsItem (gathered run rounds from) (reduce_list run.division from to) (All-weaker (λ v. v < run.division.nodes) (λ v. IsItem (gathered run rounds from v)) (λ v below. gathered_is_value run fact rounds from v below) (reduce_list run.division from to) (picked_below run.division.nodes _));
    whole = refl;
  }

  pub broadcasts_are_forms : (shown_bytes : Shown → List ℕ) → BroadcastsAreForms IsItem IsShown IsState shown_bytes
  broadcasts_are_forms shown_bytes run rounds from to fact = record {
    is_tag = tag_fits _ _ _ _;
    mark_for_each = length-map (broadcast_list run.division from to) _;
    value_for_each = length-map (broadcast_list run.division from to) _;
    are_values = All-map IsShown (shows run (suc rounds)) (broadcast_list run.division from to) (All-weaker (λ v. v < run.division.nodes) (λ v. IsShown (shows run (suc rounds) v)) (λ v below. shows_value run fact (suc rounds) v below) (broadcast_list run.division from to) (picked_below run.division.nodes _));
    whole = refl;
  }
