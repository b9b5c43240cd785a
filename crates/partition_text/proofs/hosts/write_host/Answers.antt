use Rattle.std.specs.List.{flat_map}
use Rattle.io_edge.proofs.Writings.{WroteFront-more, WroteBy-++, WroteBy-err}
use Rattle.graph_division.specs.Shares.{proxies_here}
use Rattle.partition_text.specs.Hosts.{proxy_line}
use Rattle.partition_text.proofs.hosts.write_host.Goals as goal

pub returns-in_err-write_host_line : goal.returns-in_err-write_host_line
returns-in_err-write_host_line g c =
    let share = c.args.graph.now in
    record {
      written = WroteBy-err c.from_residual.ensures.0
          (WroteFront-more (flat_map (proxy_line c.args.way share) (proxies_here share)) c.in_err-write_host_line.ensures.written.front);
    }

pub returns : goal.returns
returns g c = record { written = WroteBy-++ c.in_ok-write_host_line.ensures.written.all c.write_proxies.ensures.written }
