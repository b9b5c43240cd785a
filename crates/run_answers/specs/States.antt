-- What a host tells of its own masters.
use Rattle.std.specs.Prelude.{ℕ, List, Option}
use Rattle.std.specs.List.{flat_map, zip}
use Rattle.answer_writer.specs.Lines.{answer_line}
use Rattle.graph_division.specs.Shares.{masters_here}
use Rattle.host_state.specs.HostState.{HostState}

-- the line of a vertex and its state, where this is the answer of a state
abbrev pub state_line : {State : Type 0} → (State → Option ℕ) → ℕ × State → List ℕ
state_line answer told = answer_line told.0 (answer told.1)

-- the lines of a host's masters, by local number, as the host holds their states
abbrev pub lines_here : {Program Item State Shown : Type 0} → (State → Option ℕ) → HostState Program Item State Shown → List ℕ
lines_here answer host = flat_map (state_line answer) (zip (masters_here host.graph) host.view.states)
