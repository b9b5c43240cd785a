use Rattle.std.proofs.Common.{◌≡◌, ◌+◌, ◌<◌, ◌≤◌, ◌↔◌, ℕ, List, nat_lt, count_by, length, slice_index, slice_index_or, arith, subst, ◌∙◌, ap}
use Rattle.std.proofs.lemmas.List.{get_or_default}
use Rattle.cusp_rules.specs.Assignment.{Assignment}
use Rattle.cusp_rules.specs.Bounds.{hosts_of}
use Rattle.cusp_rules.proofs.Holds.{lower_vertices, vertices_of_host, length-masters, rises}
use Rattle.cusp_rules.proofs.masters.Masters.range.Goals as goal

-- what was read at a place is what stands there
read_is : (bounds : List ℕ) (i place x : ℕ) → i ≡ place → place < length bounds → x ≡ slice_index_or bounds i x → x ≡ slice_index bounds place
read_is bounds i place x same within read =
    let at : slice_index_or bounds i x ≡ slice_index_or bounds place x = ap (λ j. slice_index_or bounds j x) same in
    read ∙ at ∙ get_or_default bounds place x 0 within

pub returns-clause-first : goal.returns-clause-first
returns-clause-first c =
    let bounds = c.self.inside.bounds.items in
    let P : Assignment → Type 0 = λ seen. c.args.h < seen.hosts → c.index.result.now ≡ count_by (λ master. nat_lt master c.args.h) seen.masters in
    subst P c.self.view_is
    (λ host. read_is bounds c.from-h.result c.args.h c.index.result.now (omega arith) (omega arith) c.index.ensures ∙ lower_vertices bounds c.self.invariant c.args.h host)
    c.requires

pub returns-clause-within : goal.returns-clause-within
returns-clause-within c =
    let bounds = c.self.inside.bounds.items in
    let P : Assignment → Type 0 = λ seen. c.args.h < seen.hosts → c.index-2.result.now ≤ length seen.masters in
    subst P c.self.view_is
    (λ host.
    let within : c.args.h + 1 < length bounds = omega arith in
    let high = read_is bounds (c.from-h.result + 1) (c.args.h + 1) c.index-2.result.now (omega arith) within c.index-2.ensures in
    omega (arith, high, rises bounds c.self.invariant (c.args.h + 1) (hosts_of bounds) (omega arith) (omega arith), length-masters bounds c.self.invariant))
    c.requires

pub returns-clause-vertices : goal.returns-clause-vertices
returns-clause-vertices c =
    let bounds = c.self.inside.bounds.items in
    let P : Assignment → Type 0 = λ seen. c.args.h < seen.hosts → (v : ℕ) → v < length seen.masters → (slice_index seen.masters v ≡ c.args.h) ↔ ((c.index.result.now ≤ v) × (v < c.index-2.result.now)) in
    subst P c.self.view_is
    (λ host v vertex.
    let within : c.args.h + 1 < length bounds = omega arith in
    let low = read_is bounds c.from-h.result c.args.h c.index.result.now (omega arith) (omega arith) c.index.ensures in
    let high = read_is bounds (c.from-h.result + 1) (c.args.h + 1) c.index-2.result.now (omega arith) within c.index-2.ensures in
    rw (low, high) (vertices_of_host bounds c.self.invariant c.args.h v host (omega (arith, length-masters bounds c.self.invariant, vertex))))
    c.requires
