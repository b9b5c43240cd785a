-- The rounds of k-core in the words of peeling.
use Rattle.std.specs.Prelude.{ℕ, zero, suc, ◌&&◌, Bool, true, not, if◌then◌else◌, List}
use Rattle.graph_model.specs.Arcs.{Arc}
use Rattle.graph_model.specs.Core.{inner_degree}
use Rattle.graph_model.specs.Peeling.{peel}
use Rattle.kcore_program.specs.declared.core_state.CoreState.{CoreState}
use Rattle.kcore_program.specs.declared.core_state.CoreState.TheVariants.{Fresh, Stays, Left}

-- who leaves in the round after so many
abbrev pub leaves : (k nodes : ℕ) → List Arc → (rounds : ℕ) → ℕ → Bool
leaves k nodes arcs rounds v = peel k nodes arcs rounds v && not (peel k nodes arcs (suc rounds) v)

-- whose arcs count in the round after so many: at first everyone's, then those of who has just left
abbrev pub counts : (k nodes : ℕ) → List Arc → (rounds : ℕ) → ℕ → Bool
counts k nodes arcs zero u = true
counts k nodes arcs (suc rounds) u = leaves k nodes arcs rounds u

-- the tally that some of the arcs bring v in the round after so many
abbrev pub tally : (k nodes : ℕ) → (arcs some : List Arc) → (rounds v : ℕ) → ℕ
tally k nodes arcs some rounds v = inner_degree some (counts k nodes arcs rounds) v

-- The state after so many rounds: who is peeled off has left, and who is left has its inner degree among
-- those who were left before the round.
abbrev pub peeled_state : (k nodes : ℕ) → List Arc → (rounds v : ℕ) → CoreState
peeled_state k nodes arcs zero v = Fresh
peeled_state k nodes arcs (suc rounds) v =
    if peel k nodes arcs (suc rounds) v then Stays (inner_degree arcs (peel k nodes arcs rounds) v) else Left
