use Rattle.std.proofs.Common.{List, ℕ, ◌++◌}
use Rattle.io_edge.proofs.Writings.{WroteFront-++, WroteFront-more, WroteBy-++, WroteBy-err}
use Rattle.packet_table.specs.declared.channel_spec.Leg.TheVariants.{Reduce, Spread}
use Rattle.graph_model.specs.declared.edge.Way.{Way}
use Rattle.graph_division.specs.Shares.{Share}
use Rattle.graph_division.specs.Partition.{division_of}
use Rattle.partition_text.specs.Lists.{lists_text}
use Rattle.partition_text.specs.Text.{classes_text}
use Rattle.partition_text.proofs.text.write_partition.Goals as goal

-- what follows the lists of reductions, and the hosts
abbrev spread_text : Way → List Share → List ℕ
spread_text way shares = lists_text Spread (division_of way shares) ++ classes_text shares

abbrev all_lists_text : Way → List Share → List ℕ
all_lists_text way shares = lists_text Reduce (division_of way shares) ++ spread_text way shares

pub returns-in_err-write_hosts : goal.returns-in_err-write_hosts
returns-in_err-write_hosts g c = record {
  written = WroteBy-err c.from_residual.ensures.0 (WroteFront-more (all_lists_text c.args.way c.args.graphs.now) c.in_err-write_hosts.ensures.written.front);
}

pub returns-in_err-write_lists : goal.returns-in_err-write_lists
returns-in_err-write_lists g c = record {
  written = WroteBy-err c.from_residual-in_err-write_lists.ensures.0
      (WroteFront-++ c.in_ok-write_hosts.ensures.written.all
      (WroteFront-more (spread_text c.args.way c.args.graphs.now) c.in_err-write_lists.ensures.written.front));
}

pub returns-in_err-write_lists-2 : goal.returns-in_err-write_lists-2
returns-in_err-write_lists-2 g c = record {
  written = WroteBy-err c.from_residual-in_err-write_lists-2.ensures.0
      (WroteFront-++ c.in_ok-write_hosts.ensures.written.all
      (WroteFront-++ c.in_ok-write_lists.ensures.written.all
      (WroteFront-more (classes_text c.args.graphs.now) c.in_err-write_lists-2.ensures.written.front)));
}

pub returns : goal.returns
returns g c = record {
  written = WroteBy-++ c.in_ok-write_hosts.ensures.written.all
      (WroteBy-++ c.in_ok-write_lists.ensures.written.all (WroteBy-++ c.in_ok-write_lists-2.ensures.written.all c.write_classes.ensures.written));
}
