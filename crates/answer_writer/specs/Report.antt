-- The lines of a run's report.
use Rattle.std.specs.Prelude.{ℕ, Bool, true, false, List, [], ◌∷◌, ◌++◌, codes, decimal}
use Rattle.answer_writer.specs.declared.report.Report.{Report}

-- a name, a space, what is told of it, and a newline
abbrev pub named_line : List ℕ → List ℕ → List ℕ
named_line name told = name ++ 32 ∷ (told ++ 10 ∷ [])

-- a name and a number
abbrev pub count_line : List ℕ → ℕ → List ℕ
count_line name n = named_line name (decimal n)

-- whether it is so
abbrev pub yes_or_no : Bool → List ℕ
yes_or_no true = codes "yes"
yes_or_no false = codes "no"

-- a name, and whether it is so
abbrev pub class_line : List ℕ → Bool → List ℕ
class_line name holds = named_line name (yes_or_no holds)

-- the counts of a run
abbrev pub count_lines : Report → List ℕ
count_lines report =
    count_line (codes "rounds") report.rounds ++ (count_line (codes "packets") report.packets
    ++ (count_line (codes "bytes") report.bytes ++ count_line (codes "mirrors") report.mirrors))

-- the classes of its partition
abbrev pub class_lines : Report → List ℕ
class_lines report =
    class_line (codes "no-out") report.no_out
    ++ (class_line (codes "no-in") report.no_in ++ class_line (codes "no-both") report.no_both)

-- the seven lines of a report
abbrev pub report_lines : Report → List ℕ
report_lines report = count_lines report ++ class_lines report
