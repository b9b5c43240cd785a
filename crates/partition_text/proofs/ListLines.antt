-- The line of a list that is not empty, and hosts by number.
use Rattle.std.proofs.Common.{◌≡◌, ◌≢◌, ◌∙◌, ℕ, ◌+◌, ◌<◌, List, [], ◌∷◌, ◌++◌, length, take, get_or, codes, refl, sym, arith}
use Rattle.std.specs.List.{range_with_len}
use Rattle.std.proofs.lemmas.List.{take_all}
use Rattle.std.proofs.lemmas.List.FromFn.{length-range_with_len, get_or-range_with_len}
use Rattle.answer_writer.specs.Lines.{spaced_numbers}
use Rattle.partition_text.specs.Hosts.{number_after}
use Rattle.partition_text.specs.Lists.{list_line}

-- what follows the sender in the line of a list, and what follows the receiver
abbrev pub vertices_text : List ℕ → List ℕ
vertices_text vertices = spaced_numbers vertices ++ 10 ∷ []

abbrev pub to_text : (to : ℕ) → List ℕ → List ℕ
to_text to vertices = number_after (codes " ") to ++ vertices_text vertices

-- a list that is not empty has a line
pub full_line : (before : List ℕ) (from to : ℕ) (vertices : List ℕ) → length vertices ≢ 0 → number_after before from ++ to_text to vertices ≡ list_line before from to vertices
full_line before from to [] some = absurd (some refl)
full_line before from to (v ∷ vertices) some = refl

-- hosts stand by number
pub host_at : (hosts i : ℕ) → i < hosts → i ≡ get_or (range_with_len 0 hosts) i 0
host_at hosts i within = let same : 0 + i ≡ i = omega arith in sym (get_or-range_with_len 0 hosts i 0 within ∙ same)

pub host_within : (hosts i : ℕ) → i < hosts → i < length (range_with_len 0 hosts)
host_within hosts i within = let count = length-range_with_len 0 hosts in omega arith

-- all hosts
pub all_hosts : (hosts i : ℕ) → i ≡ hosts → take i (range_with_len 0 hosts) ≡ range_with_len 0 hosts
all_hosts hosts i is = let count = length-range_with_len 0 hosts in take_all i (range_with_len 0 hosts) (omega arith)
