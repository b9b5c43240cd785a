use Rattle.std.proofs.Common.{◌≡◌, ℕ, ◌-◌, ◌<◌, min, arith, subst}
use Rattle.cusp_rules.specs.Blocks.{IsCut, quotient_of}
use Rattle.cusp_rules.specs.Formulas.{vertices_of, master_of}
use Rattle.cusp_rules.proofs.Cuts.{IsBounds-from_cut, assignment-from_cut}
use Rattle.cusp_rules.proofs.Formed.{block_is_master}
use Rattle.cusp_rules.proofs.bounds.bounds_by.Goals as goal

pub returns-clause-bounds : goal.returns-clause-bounds
returns-clause-bounds c =
    let starts = c.args.starts.now in
    let quotient = quotient_of c.args.rule c.block-block.result starts in
    let nodes = vertices_of starts in
    let whole : c.loop-host.host ≡ c.args.hosts = omega arith in
    let P : ℕ → Type 0 = λ hosts. IsCut quotient nodes hosts c.loop-host.bounds.items in
    let cut = subst P whole c.loop-host.invariant in
    rw c.in_ok-push-2.ensures.items (IsBounds-from_cut quotient nodes c.args.hosts c.loop-host.bounds.items c.requires.hosts c.requires.starts.vertices_fit cut)

pub returns-clause-masters : goal.returns-clause-masters
returns-clause-masters c =
    let starts = c.args.starts.now in
    let quotient = quotient_of c.args.rule c.block-block.result starts in
    let nodes = vertices_of starts in
    let whole : c.loop-host.host ≡ c.args.hosts = omega arith in
    let P : ℕ → Type 0 = λ hosts. IsCut quotient nodes hosts c.loop-host.bounds.items in
    let cut = subst P whole c.loop-host.invariant in
    let same : (v : ℕ) → v < nodes → min (c.args.hosts - 1) (quotient v) ≡ master_of c.args.rule c.args.hosts starts v = λ v vertex. rw c.block-block.ensures (block_is_master c.args.rule c.args.hosts starts c.requires.hosts v vertex) in
    rw c.in_ok-push-2.ensures.items (assignment-from_cut quotient nodes c.args.hosts c.loop-host.bounds.items c.requires.hosts c.requires.starts.vertices_fit cut (master_of c.args.rule c.args.hosts starts) same)
