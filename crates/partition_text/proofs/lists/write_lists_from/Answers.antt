use Rattle.std.proofs.Common.{ap, arith}
use Rattle.std.specs.List.{flat_map}
use Rattle.io_edge.proofs.Writings.{WroteBy-err}
use Rattle.graph_division.specs.Division.{hosts_of}
use Rattle.graph_division.specs.Partition.{division_of}
use Rattle.partition_text.specs.Lists.{line_between}
use Rattle.partition_text.proofs.ListLines.{host_at, host_within, all_hosts}
use Rattle.io_edge.proofs.Texts.{all_as, WroteAll-texts, WroteFront-texts}
use Rattle.partition_text.proofs.lists.write_lists_from.Goals as goal

pub loop-to-preserved : goal.loop-to-preserved
loop-to-preserved g c =
    let division = division_of c.args.agreed.way c.args.agreed.graphs.now in
    let hosts = c.hosts-to-end.ensures in
    WroteAll-texts (line_between c.args.leg division c.args.from) (hosts_of division) c.loop-to.to c.loop-to.to 0 (host_within division.hosts c.loop-to.to (omega arith)) (host_at division.hosts c.loop-to.to (omega arith))
    c.loop-to.invariant c.in_ok-write_list_between.ensures.written.all

pub returns-in_err-write_list_between : goal.returns-in_err-write_list_between
returns-in_err-write_list_between g c =
    let division = division_of c.args.agreed.way c.args.agreed.graphs.now in
    let hosts = c.hosts-to-end.ensures in
    record {
      written = WroteBy-err c.from_residual.ensures.0
          (WroteFront-texts (line_between c.args.leg division c.args.from) (hosts_of division) c.loop-to.to c.loop-to.to 0 (host_within division.hosts c.loop-to.to (omega arith)) (host_at division.hosts c.loop-to.to (omega arith))
          c.loop-to.invariant c.in_err-write_list_between.ensures.written.front);
    }

pub returns : goal.returns
returns g c =
    let division = division_of c.args.agreed.way c.args.agreed.graphs.now in
    let hosts = c.hosts-to-end.ensures in
    record {
      written = record {
        all = all_as (ap (flat_map (line_between c.args.leg division c.args.from)) (all_hosts division.hosts c.loop-to.to (omega arith))) c.loop-to.invariant;
        front = tt;
      };
    }
