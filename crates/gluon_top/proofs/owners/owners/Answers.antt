use Rattle.std.proofs.Common.{ap}
use Rattle.cusp_rules.specs.Formulas.{masters_of}
use Rattle.edge_columns.specs.Starts.{starts_of}
use Rattle.share_plan.specs.Owners.{owner_at}
use Rattle.share_plan.specs.Plan.{Plan, owner_by}
use Rattle.job_text.proofs.OwnerLines.{lines_of-same}
use Rattle.gluon_top.proofs.owners.owners.Goals as goal

pub returns-clause-text : goal.returns-clause-text
returns-clause-text g c =
    let graph = c.in_ok-list.list in
    let plan = c.in_ok-plan.plan in
    lines_of-same plan.masters (masters_of c.args.rules.masters c.args.hosts (starts_of graph)) (owner_by plan) (owner_at c.args.rules c.args.hosts graph) graph.edges
    (ap (λ (p : Plan). p.masters) c.in_ok-plan.ensures.plan) c.in_ok-plan.ensures.owners
