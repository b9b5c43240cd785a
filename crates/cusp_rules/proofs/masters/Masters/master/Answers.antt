use Rattle.std.proofs.Common.{◌<◌, ◌≤◌, leb, length, arith, rules, subst}
use Rattle.std.proofs.lemmas.List.Sorted.{IsPartitionPoint-from_clause, IsPartitionedBy-leb}
use Rattle.cusp_rules.specs.Assignment.{Assignment}
use Rattle.cusp_rules.proofs.Holds.{IsFound, found_host, length-masters}
use Rattle.cusp_rules.proofs.masters.Masters.master.Goals as goal

found : (c : goal.After-partition_point) → IsFound c.args.self.now c.args.v c.partition_point.result
found c =
    let bounds = c.self.inside.bounds.items in
    let same = c.deref.ensures.value in
    let parted = IsPartitionedBy-leb (λ bound. bound) c.deref.result.now c.args.v (rw same c.self.invariant.rises) in
    let point = IsPartitionPoint-from_clause (λ bound. leb bound c.args.v) _ _ c.partition_point.ensures.partitioned parted (λ a r q k. search rules) in
    let fits : c.partition_point.result ≤ length c.deref.result.now = c.partition_point.ensures.bound in
    let P : Assignment → Type 0 = λ seen. c.args.v < length seen.masters → IsFound seen c.args.v c.partition_point.result in
    subst P c.self.view_is
    (λ within. found_host bounds c.self.invariant c.args.v c.partition_point.result (omega (arith, length-masters bounds c.self.invariant, within)) (rw same at fits) (rw same at point))
    c.requires

pub overflow_sub-result : goal.overflow_sub-result
overflow_sub-result c = (found c).some_host

pub returns-clause-master : goal.returns-clause-master
returns-clause-master c = (found c).master

pub returns-clause-host : goal.returns-clause-host
returns-clause-host c = (found c).host
