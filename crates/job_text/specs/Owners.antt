-- The text that says which host has each vertex and each edge.
use Rattle.std.specs.Prelude.{ℕ, List, [], ◌∷◌, ◌++◌, codes}
use Rattle.answer_writer.specs.Lines.{words_line}
use Rattle.graph_model.specs.declared.edge.Edge.{Edge}
use Rattle.graph_model.specs.Graph.{Graph}
use Rattle.cusp_rules.specs.Formulas.{masters_of}
use Rattle.edge_owner.specs.declared.rules.Rules.{Rules}
use Rattle.edge_columns.specs.Starts.{starts_of}
use Rattle.share_plan.specs.Owners.{owner_at}
use Rattle.share_plan.specs.Plan.{Plan, owner_by}
use Rattle.job_text.specs.Numbered.{numbered}

-- a vertex and its master
abbrev pub master_line : (v master : ℕ) → List ℕ
master_line v master = words_line (codes "master") (v ∷ master ∷ [])

-- an edge's number, its ends and its owner
abbrev pub edge_line : (owner : Edge → ℕ) → (i : ℕ) → Edge → List ℕ
edge_line owner i edge = words_line (codes "edge") (i ∷ edge.src ∷ edge.dst ∷ owner edge ∷ [])

-- a line for each vertex by number, then one for each edge in file order
abbrev pub lines_of : (masters : List ℕ) → (owner : Edge → ℕ) → List Edge → List ℕ
lines_of masters owner edges = numbered master_line 0 masters ++ numbered (edge_line owner) 0 edges

-- the masters and the owners by these rules
abbrev pub owners_text : Rules → (hosts : ℕ) → Graph → List ℕ
owners_text rules hosts graph =
    lines_of (masters_of rules.masters hosts (starts_of graph)) (owner_at rules hosts graph) graph.edges

-- the same as a plan tells them
abbrev pub plan_text : Plan → Graph → List ℕ
plan_text plan graph = lines_of plan.masters (owner_by plan) graph.edges
