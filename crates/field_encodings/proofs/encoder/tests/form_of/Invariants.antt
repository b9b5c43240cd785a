use Rattle.std.specs.Prelude.{◌≡◌, length}
use Rattle.field_encodings.proofs.encoder.tests.form_of.Given as goal

-- the set keeps its length
abbrev pub invariant-loop-position : goal.invariant-loop-position
invariant-loop-position g l = length l.bits ≡ l.proxies
