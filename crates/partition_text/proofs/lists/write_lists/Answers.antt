use Rattle.std.proofs.Common.{ℕ, List, ap, arith}
use Rattle.std.specs.List.{flat_map}
use Rattle.io_edge.proofs.Writings.{WroteBy-err}
use Rattle.packet_table.specs.declared.channel_spec.Leg.{Leg}
use Rattle.graph_division.specs.Division.{Division, hosts_of}
use Rattle.graph_division.specs.Partition.{division_of}
use Rattle.partition_text.specs.Lists.{line_between}
use Rattle.partition_text.proofs.ListLines.{host_at, host_within, all_hosts}
use Rattle.io_edge.proofs.Texts.{all_as, WroteAll-texts, WroteFront-texts}
use Rattle.partition_text.proofs.lists.write_lists.Goals as goal

-- the lines of the lists along which a host sends
abbrev lines_from : Leg → Division → (from : ℕ) → List ℕ
lines_from leg division from = flat_map (line_between leg division from) (hosts_of division)

pub loop-from-preserved : goal.loop-from-preserved
loop-from-preserved g c =
    let division = division_of c.args.agreed.way c.args.agreed.graphs.now in
    let hosts = c.hosts-from-end.ensures in
    WroteAll-texts (lines_from c.args.leg division) (hosts_of division) c.loop-from.from c.loop-from.from 0 (host_within division.hosts c.loop-from.from (omega arith)) (host_at division.hosts c.loop-from.from (omega arith))
    c.loop-from.invariant c.in_ok-write_lists_from.ensures.written.all

pub returns-in_err-write_lists_from : goal.returns-in_err-write_lists_from
returns-in_err-write_lists_from g c =
    let division = division_of c.args.agreed.way c.args.agreed.graphs.now in
    let hosts = c.hosts-from-end.ensures in
    record {
      written = WroteBy-err c.from_residual.ensures.0
          (WroteFront-texts (lines_from c.args.leg division) (hosts_of division) c.loop-from.from c.loop-from.from 0 (host_within division.hosts c.loop-from.from (omega arith)) (host_at division.hosts c.loop-from.from (omega arith))
          c.loop-from.invariant c.in_err-write_lists_from.ensures.written.front);
    }

pub returns : goal.returns
returns g c =
    let division = division_of c.args.agreed.way c.args.agreed.graphs.now in
    let hosts = c.hosts-from-end.ensures in
    record {
      written = record {
        all = all_as (ap (flat_map (lines_from c.args.leg division)) (all_hosts division.hosts c.loop-from.from (omega arith))) c.loop-from.invariant;
        front = tt;
      };
    }
