-- What one host tells another before the first round: the vertices whose mirrors it reduces to that
-- host, and those that it wants to be told.
use Rattle.std.specs.Prelude.{ℕ, List, ◌∷◌, ◌++◌, length}
use Rattle.list_laws.specs.LittleEndian.{le_text}

-- both lengths and then both lists, each number in four bytes, the lowest first
abbrev pub payload : (reduce spread : List ℕ) → List ℕ
payload reduce spread = le_text 4 (length reduce ∷ length spread ∷ (reduce ++ spread))
