-- The lines that tell the lists along which hosts exchange values.
use Rattle.std.specs.Prelude.{ℕ, List, [], ◌∷◌, ◌++◌, codes}
use Rattle.std.specs.List.{flat_map}
use Rattle.answer_writer.specs.Lines.{spaced_numbers}
use Rattle.packet_table.specs.declared.channel_spec.Leg.{Leg}
use Rattle.packet_table.specs.declared.channel_spec.Leg.TheVariants.{Reduce, Spread}
use Rattle.graph_division.specs.Division.{Division, hosts_of}
use Rattle.graph_division.specs.Lists.{reduce_list, broadcast_list}
use Rattle.partition_text.specs.Hosts.{number_after}

-- what a list is, who sends along it, who receives, and its vertices; an empty list has no line
abbrev pub list_line : (before : List ℕ) → (from to : ℕ) → List ℕ → List ℕ
list_line before from to [] = []
list_line before from to (v ∷ vertices) =
    number_after before from ++ (number_after (codes " ") to ++ (spaced_numbers (v ∷ vertices) ++ 10 ∷ []))

-- the line of the pruned list of a leg from one host to another
abbrev pub line_between : Leg → Division → (from to : ℕ) → List ℕ
line_between Reduce division from to = list_line (codes "reduce ") from to (reduce_list division from to)
line_between Spread division from to = list_line (codes "spread ") from to (broadcast_list division from to)

-- the lines of all lists of a leg, by sender and then by receiver
abbrev pub lists_text : Leg → Division → List ℕ
lists_text leg division = flat_map (λ from. flat_map (line_between leg division from) (hosts_of division)) (hosts_of division)
