-- The lines that tell what the four programs find on a made graph.
use Rattle.std.specs.Prelude.{ℕ, List, [], ◌∷◌, ◌++◌, codes, decimal}
use Rattle.answer_writer.specs.Lines.{words_line}
use Rattle.graph_maker.specs.declared.summary.Summary.{Summary}
use Rattle.trial_runs.specs.declared.trial.Trial.{Trial}

-- how many vertices and how many edges the graph has
abbrev pub size_lines : Trial → List ℕ
size_lines trial = words_line (codes "nodes") (trial.nodes ∷ []) ++ words_line (codes "edges") (trial.edges ∷ [])

-- how many vertices a program reaches, and the sum and the greatest of their values
abbrev pub summary_line : (before : List ℕ) → Summary → List ℕ
summary_line before summary =
    before ++ decimal summary.reached
    ++ (codes " sum " ++ decimal summary.sum ++ words_line (codes " greatest") (summary.greatest ∷ []))

-- a line for each program
abbrev pub program_lines : Trial → List ℕ
program_lines trial =
    summary_line (codes "bfs reached ") trial.distances
    ++ (summary_line (codes "sssp reached ") trial.costs
    ++ (words_line (codes "cc labels") (trial.labels ∷ []) ++ words_line (codes "core 8 members") (trial.members ∷ [])))

-- the six lines of a trial
abbrev pub trial_text : Trial → List ℕ
trial_text trial = size_lines trial ++ program_lines trial
