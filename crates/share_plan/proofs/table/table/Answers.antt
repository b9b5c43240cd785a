use Rattle.std.proofs.Common.{◌≡◌, ◌⊎◌, ◌<◌, ◌≤◌, ℕ, ◌++◌, List, length, take, drop, slice_index, sym, ap, ◌∙◌, ⊎_elim, inl, inr, arith}
use Rattle.std.proofs.lemmas.Bool.{cases_lt}
use Rattle.std.proofs.lemmas.List.{ext_get_or, take-append-le, take_all}
use Rattle.share_plan.proofs.table.table.Goals as goal

-- a list that was lent whole is what was written to it
written_back : {X : Type 0} (n : ℕ) (new old : List X) → length new ≡ length old → n ≡ length old → take n (new ++ drop (length new) old) ≡ new
written_back n new old same long =
    let within : n ≤ length new = omega arith in
    take-append-le n new (drop (length new) old) within ∙ take_all n new (omega arith)

-- a vertex of a lower host is not among those of this one
outside : (masters : List ℕ) (v host first end : ℕ) → slice_index masters v < host → ((first ≤ v) × (v < end) → slice_index masters v ≡ host) → (v < first) ⊎ (end ≤ v)
outside masters v host first end lower among =
    ⊎_elim
    (λ (before : v < first). inl before)
    (λ (from : first ≤ v).
    ⊎_elim
    (λ (to : v < end). absurd (omega (arith, lower, among (from, to))))
    (λ (behind : end ≤ v). inr behind)
    (cases_lt v end))
    (cases_lt v first)

pub loop-host-preserved : goal.loop-host-preserved
loop-host-preserved c =
    let masters = c.args.masters.now.masters in
    let old = c.loop-host.table.items in
    let new = c.mark.new.table in
    let same : length new ≡ length old = c.mark.ensures.long ∙ ap (λ (xs : List ℕ). length xs) c.deref_mut.ensures.value in
    let back = written_back c.loop-host.table.len new old same c.loop-host.table.ok.0 in
    let range = c.range-first.ensures in
    record {
      long = ap (λ (xs : List ℕ). length xs) back ∙ same ∙ c.loop-host.invariant.long;
      filled = λ v within lower.
          ap (λ (xs : List ℕ). slice_index xs v) back
          ∙ ⊎_elim
          (λ (before : slice_index masters v < c.loop-host.host).
          let apart : (v < c.range-first.result.0) ⊎ (c.range-first.result.1 ≤ v) = outside masters v c.loop-host.host c.range-first.result.0 c.range-first.result.1 before (range.vertices v within).1 in
          c.mark.ensures.others v apart ∙ ap (λ (xs : List ℕ). slice_index xs v) c.deref_mut.ensures.value ∙ c.loop-host.invariant.filled v within before)
          (λ (here : c.loop-host.host ≤ slice_index masters v).
          let is : slice_index masters v ≡ c.loop-host.host = omega (arith, lower, here) in
          let among = (range.vertices v within).0 is in
          c.mark.ensures.marked v among.0 among.1 ∙ sym is)
          (cases_lt (slice_index masters v) c.loop-host.host);
    }

pub returns : goal.returns
returns c =
    let masters = c.args.masters.now.masters in
    let hosts = c.hosts-host-end.ensures.hosts in
    ext_get_or 0 c.loop-host.table.items masters c.loop-host.invariant.long (λ v within.
    let below = c.hosts-host-end.ensures.facts.on_hosts v 0 (omega (arith, c.loop-host.invariant.long)) in
    c.loop-host.invariant.filled v (omega (arith, c.loop-host.invariant.long)) (omega (arith, below, hosts)))
