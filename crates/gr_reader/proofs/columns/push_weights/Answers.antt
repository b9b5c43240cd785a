use Rattle.std.proofs.Common.{◌≡◌, List, ℕ, ◌∷◌, ◌++◌, sym, ap, ◌∙◌, append_assoc}
use Rattle.list_laws.specs.LittleEndian.{whole_numbers}
use Rattle.gr_reader.proofs.Chunks.{split-4}
use Rattle.gr_reader.proofs.columns.push_weights.Goals as goal

pub loop-front-preserved : goal.loop-front-preserved
loop-front-preserved c =
    let weight = c.from_le_bytes.result in
    let step : whole_numbers 4 c.loop-front.rest.now ≡ weight ∷ whole_numbers 4 c.in-Some.after.now =
    split-4 _ c.in-Some.front.now _ weight c.in-Some.ensures.cases.0 c.in-Some.ensures.cases.1 c.in-Some.ensures.cases.2 c.from_le_bytes.ensures in
    rw (c.in_ok-push.ensures.items, append_assoc) (ap (λ (l : List ℕ). c.loop-front.weights.items ++ l) (sym step) ∙ c.loop-front.invariant)
