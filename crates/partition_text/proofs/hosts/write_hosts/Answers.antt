use Rattle.io_edge.proofs.Writings.{WroteBy-err}
use Rattle.partition_text.specs.Hosts.{host_text}
use Rattle.io_edge.proofs.Texts.{WroteAll-texts, WroteFront-texts}
use Rattle.partition_text.proofs.hosts.write_hosts.Goals as goal

pub loop-graph-preserved : goal.loop-graph-preserved
loop-graph-preserved g c =
    let graph = c.graph-item.result in
    WroteAll-texts (host_text c.args.way) c.args.graphs.now c.loop-graph.graph-index graph graph c.loop-graph-test.true c.graph-item.is
    c.loop-graph.invariant c.in_ok-write_host.ensures.written.all

pub returns-in_err-write_host : goal.returns-in_err-write_host
returns-in_err-write_host g c =
    let graph = c.graph-item.result in
    record {
      written = WroteBy-err c.from_residual.ensures.0
          (WroteFront-texts (host_text c.args.way) c.args.graphs.now c.loop-graph.graph-index graph graph c.loop-graph-test.true c.graph-item.is
          c.loop-graph.invariant c.in_err-write_host.ensures.written.front);
    }
