use Rattle.std.proofs.Common.{arith}
use Rattle.proxy_graph.proofs.Read.{kept, few_proxies, length-proxies, nodes_fit}
use Rattle.proxy_graph.proofs.local_graph.LocalGraph.proxies.Goals as goal

pub overflow_cast-result : goal.overflow_cast-result
overflow_cast-result c = omega (arith, length-proxies c.args.self.now c.self.inside (kept c.self.inside c.args.self.now c.self.view_is c.self.invariant), few_proxies c.args.self.now, nodes_fit c.args.self.now c.self.inside (kept c.self.inside c.args.self.now c.self.view_is c.self.invariant))

pub overflow_add-result : goal.overflow_add-result
overflow_add-result c = omega (arith, length-proxies c.args.self.now c.self.inside (kept c.self.inside c.args.self.now c.self.view_is c.self.invariant), few_proxies c.args.self.now, nodes_fit c.args.self.now c.self.inside (kept c.self.inside c.args.self.now c.self.view_is c.self.invariant))

pub returns-clause-proxies : goal.returns-clause-proxies
returns-clause-proxies c = omega (arith, length-proxies c.args.self.now c.self.inside (kept c.self.inside c.args.self.now c.self.view_is c.self.invariant))

pub returns-clause-few : goal.returns-clause-few
returns-clause-few c = omega (arith, length-proxies c.args.self.now c.self.inside (kept c.self.inside c.args.self.now c.self.view_is c.self.invariant), few_proxies c.args.self.now)
