use Rattle.std.proofs.Common.{refl, arith}
use Rattle.io_edge.proofs.Writings.{WroteBy-err}
use Rattle.graph_division.specs.Shares.{proxies_here}
use Rattle.proxy_graph.specs.Heads.{vertex_at}
use Rattle.partition_text.specs.Hosts.{proxy_line}
use Rattle.io_edge.proofs.Texts.{WroteAll-texts, WroteFront-texts}
use Rattle.partition_text.proofs.hosts.write_proxies.Goals as goal

pub loop-lid-preserved : goal.loop-lid-preserved
loop-lid-preserved g c =
    let share = c.args.graph.now in
    WroteAll-texts (proxy_line c.args.way share) (proxies_here share) c.loop-lid.lid (vertex_at share c.loop-lid.lid) 0 (omega arith) refl
    c.loop-lid.invariant c.in_ok-write_proxy.ensures.written.all

pub returns-in_err-write_proxy : goal.returns-in_err-write_proxy
returns-in_err-write_proxy g c =
    let share = c.args.graph.now in
    record {
      written = WroteBy-err c.from_residual.ensures.0
          (WroteFront-texts (proxy_line c.args.way share) (proxies_here share) c.loop-lid.lid (vertex_at share c.loop-lid.lid) 0 (omega arith) refl
          c.loop-lid.invariant c.in_err-write_proxy.ensures.written.front);
    }
