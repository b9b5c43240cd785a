-- What a reader is, and what its calls return of the bytes that a source had and has left.
use Rattle.std.specs.Prelude.{◌≡◌, ℕ, ◌≤◌, ◌==◌, ◌||◌, IsTrue, List, Option, IsSomeAnd, Result, Ok, Err}
use Rattle.io_edge.specs.Faults.{Rose}
use Rattle.graph_model.specs.Graph.{most_nodes, most_edges}
use Rattle.gr_reader.specs.declared.head.Head.{Head}
use Rattle.gr_reader.specs.declared.stage.Stage.{Stage}
use Rattle.gr_reader.specs.declared.fault.GrFault.{GrFault}
use Rattle.gr_reader.specs.Cause.{Cause, BytesOf, FailedRead, NoMemory, cause_of, IfBytes}

-- how far a reader has come, and the head, which is that of an empty graph before it is read
pub record Reading : Type 0 where
  pub stage : Stage
  pub head : Head

-- what holds of every head that is accepted
pub record IsHead (head : Head) : Type 0 where
  pub version : head.version ≡ 1
  pub edge_size : IsTrue (head.edge_size == 0 || head.edge_size == 4)
  pub nodes : head.nodes ≤ most_nodes
  pub edges : head.edges ≤ most_edges

-- the meaning is this fault, and free where a read failed or memory ran out
abbrev pub Refuses : {Y : Type 0} → GrFault → Result (Y × List ℕ) GrFault → Type 0
Refuses fault meaning = IfBytes (cause_of fault) (meaning ≡ Err fault)

-- What a call returned, seen by `view`, and the bytes left after it are what the bytes before it mean, as
-- far as no read failed and memory sufficed.
abbrev pub Means : {X Y : Type 0} → (X → Y) → Result X GrFault → Option (List ℕ) → Result (Y × List ℕ) GrFault → Type 0
Means view (Ok x) left meaning = IsSomeAnd left (λ rest. meaning ≡ Ok (view x, rest))
Means view (Err fault) left meaning = Refuses fault meaning

-- the count of a source rose where a read failed, and stayed else
abbrev pub CauseCounts : Cause → ℕ → ℕ → Type 0
CauseCounts FailedRead old new = Rose old new
CauseCounts (BytesOf part) old new = new ≡ old
CauseCounts NoMemory old new = new ≡ old

-- the count of a source rose where the answer is a read that failed, and stayed else
abbrev pub Counts : {X : Type 0} → Result X GrFault → ℕ → ℕ → Type 0
Counts (Ok x) old new = new ≡ old
Counts (Err fault) old new = CauseCounts (cause_of fault) old new
