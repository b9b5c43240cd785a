-- The lines of edges.
use Rattle.std.proofs.Common.{◌≡◌, ℕ, suc, ◌+◌, List, [], ◌∷◌, ◌++◌, refl, ap, ◌∙◌, arith}
use Rattle.std.specs.List.{All}
use Rattle.graph_model.specs.declared.edge.Edge.{Edge}
use Rattle.job_text.specs.Numbered.{numbered}
use Rattle.job_text.specs.Owners.{master_line, edge_line, lines_of}

-- edges with the same owners have the same lines
edge_lines-same : (p q : Edge → ℕ) (i : ℕ) (edges : List Edge) → All (λ edge. p edge ≡ q edge) edges → numbered (edge_line p) i edges ≡ numbered (edge_line q) i edges
edge_lines-same p q i [] same = refl
edge_lines-same p q i (edge ∷ edges) same =
    ap (λ owner. edge_line (λ e. owner) i edge ++ numbered (edge_line p) (i + 1) edges) (same 0 edge (omega arith))
    ∙ ap (λ rest. edge_line q i edge ++ rest) (edge_lines-same p q (i + 1) edges (λ k d within. same (suc k) d (omega arith)))

-- and so have graphs with the same masters
pub lines_of-same : (masters others : List ℕ) (p q : Edge → ℕ) (edges : List Edge) → masters ≡ others → All (λ edge. p edge ≡ q edge) edges → lines_of masters p edges ≡ lines_of others q edges
lines_of-same masters others p q edges same_masters same_owners =
    ap (λ m. lines_of m p edges) same_masters ∙ ap (λ rest. numbered master_line 0 others ++ rest) (edge_lines-same p q 0 edges same_owners)
