use Rattle.std.proofs.Common.{arith}
use Rattle.partition_text.proofs.FewHosts.{few_hosts}
use Rattle.partition_text.proofs.agreed.Agreed.hosts.Goals as goal

pub overflow_cast-result : goal.overflow_cast-result
overflow_cast-result c =
    let few = few_hosts c.args.self.graphs.now c.requires.partition in
    omega arith
