use Rattle.std.proofs.Common.{◌≡◌, ℕ, List, ◌∷◌, ◌++◌, Some, vec_len, sym, ap, ◌∙◌, append_assoc, arith, inr}
use Rattle.list_laws.specs.LittleEndian.{whole_numbers}
use Rattle.gr_reader.specs.declared.fault.GrFault.TheVariants.{IndexFalls}
use Rattle.edge_columns.specs.Columns.{last_entry}
use Rattle.gr_reader.specs.File.{entry_fault}
use Rattle.gr_reader.proofs.Chunks.{split-8}
use Rattle.gr_reader.proofs.Falls.{entry_fault-step, entry_fault-here}
use Rattle.gr_reader.proofs.index.push_entries.Goals as goal

pub loop-front-preserved : goal.loop-front-preserved
loop-front-preserved c =
    let v = c.loop-front.invariant in
    let entry = c.from_le_bytes-entry.result in
    let more = whole_numbers 8 c.in-Some.after.now in
    let step : whole_numbers 8 c.loop-front.rest.now ≡ entry ∷ more = split-8 _ c.in-Some.front.now _ entry c.in-Some.ensures.cases.0 c.in-Some.ensures.cases.1 c.in-Some.ensures.cases.2 c.from_le_bytes-entry.ensures in
    record {
      pushed = rw (c.in_ok-push.ensures.items, append_assoc) (ap (λ (l : List ℕ). c.loop-front.entries.items ++ l) (sym step) ∙ v.pushed);
      lasts = ap (last_entry c.loop-front.last) (sym step) ∙ v.lasts;
      clear = rw c.in_ok-push.ensures.len
          (sym (entry_fault-step (vec_len c.loop-front.entries) c.loop-front.last entry more c.if-entry-last.false)
          ∙ ap (entry_fault (vec_len c.loop-front.entries) c.loop-front.last) (sym step) ∙ v.clear);
      room = omega (arith, c.in_ok-push.ensures.len, c.in-Some.ensures.cases.2);
    }

pub returns-then-entry-last-clause-found : goal.returns-then-entry-last-clause-found
returns-then-entry-last-clause-found c =
    let v = c.loop-front.invariant in
    let entry = c.from_le_bytes-entry.result in
    let more = whole_numbers 8 c.in-Some.after.now in
    let step : whole_numbers 8 c.loop-front.rest.now ≡ entry ∷ more = split-8 _ c.in-Some.front.now _ entry c.in-Some.ensures.cases.0 c.in-Some.ensures.cases.1 c.in-Some.ensures.cases.2 c.from_le_bytes-entry.ensures in
    inr (sym v.clear ∙ ap (entry_fault (vec_len c.loop-front.entries) c.loop-front.last) step
    ∙ entry_fault-here (vec_len c.loop-front.entries) c.loop-front.last entry more c.if-entry-last.true
    ∙ ap (λ (n : ℕ). Some (IndexFalls n)) (sym c.len.ensures))
