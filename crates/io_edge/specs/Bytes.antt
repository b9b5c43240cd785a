-- What a call does to the bytes that a source has left and that a sink holds, where the object tells them.
use Rattle.std.specs.Prelude.{◌≡◌, ℕ, ◌≤◌, List, length, take, Option}
use Rattle.std.specs.Io.KnownBytes.{prepend_known, append_known}

-- bytes to come begin with `got`, and lose it
abbrev pub Gives : Option (List ℕ) → Option (List ℕ) → List ℕ → Type 0
Gives old new got = old ≡ prepend_known got new

-- bytes held grow by `more`
abbrev pub Gains : Option (List ℕ) → Option (List ℕ) → List ℕ → Type 0
Gains old new more = new ≡ append_known old more

-- bytes held grow by some front of `whole`
abbrev pub GainsPrefix : Option (List ℕ) → Option (List ℕ) → List ℕ → Type 0
GainsPrefix old new whole = (n : ℕ) × (n ≤ length whole) × Gains old new (take n whole)
