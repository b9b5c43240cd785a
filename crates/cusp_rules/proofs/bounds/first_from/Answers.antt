use Rattle.std.proofs.Common.{ℕ, ◌/◌, ◌<◌, ◌≤◌, ◌↔◌, ltb, length, subst, sym, arith, rules}
use Rattle.std.proofs.lemmas.List.Sorted.{IsPartitionPoint-from_clause}
use Rattle.cusp_rules.specs.Blocks.{quotient_of}
use Rattle.cusp_rules.specs.Formulas.{vertices_of}
use Rattle.cusp_rules.specs.declared.master_rule.MasterRule.{MasterRule}
use Rattle.cusp_rules.proofs.Firsts.{IsPartitionedBy-block, first_in_block}
use Rattle.cusp_rules.proofs.bounds.first_from.Goals as goal

pub returns-in-Edges-clause-first : goal.returns-in-Edges-clause-first
returns-in-Edges-clause-first c =
    let starts = c.args.starts.now in
    let nodes = vertices_of starts in
    let within : nodes ≤ length starts = omega arith in
    let parted = IsPartitionedBy-block starts nodes c.args.block c.args.host within c.requires.block c.requires.starts.rises in
    let point = IsPartitionPoint-from_clause (λ first. ltb (first / c.args.block) c.args.host) _ _ c.partition_point.ensures.partitioned parted (λ a r q k. search rules) in
    let P : MasterRule → Type 0 = λ rule. (v : ℕ) → v < nodes → (c.partition_point.result ≤ v) ↔ (c.args.host ≤ quotient_of rule c.args.block starts v) in
    subst P (sym c.in-Edges.is) (first_in_block starts nodes c.args.block c.args.host within c.partition_point.result point)
