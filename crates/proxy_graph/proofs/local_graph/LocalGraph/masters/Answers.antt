use Rattle.std.proofs.Common.{arith, sym}
use Rattle.proxy_graph.proofs.Read.{kept, masters_are, length-proxies}
use Rattle.proxy_graph.proofs.local_graph.LocalGraph.masters.Goals as goal

pub returns-clause-masters : goal.returns-clause-masters
returns-clause-masters c = sym (masters_are c.args.self.now c.self.inside (kept c.self.inside c.args.self.now c.self.view_is c.self.invariant))

pub returns-clause-among : goal.returns-clause-among
returns-clause-among c = omega (arith, length-proxies c.args.self.now c.self.inside (kept c.self.inside c.args.self.now c.self.view_is c.self.invariant))
