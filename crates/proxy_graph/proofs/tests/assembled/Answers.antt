use Rattle.std.proofs.Common.{length, ap, sym, ◌∙◌}
use Rattle.std.proofs.lemmas.List.FromFn.{length-map-range_with_len}
use Rattle.cusp_rules.specs.Assignment.{Assignment}
use Rattle.cusp_rules.specs.Formulas.{master_of, vertices_of}
use Rattle.cusp_rules.specs.declared.master_rule.MasterRule.TheVariants.{Edges}
use Rattle.proxy_graph.proofs.tests.assembled.Goals as goal

pub assemble_for-requires-clause-nodes : goal.assemble_for-requires-clause-nodes
assemble_for-requires-clause-nodes g c =
    sym (ap (λ (a : Assignment). length a.masters) c.in_ok-masters.ensures ∙ length-map-range_with_len (master_of Edges 2 c.args.starts.now) 0 (vertices_of c.args.starts.now))
