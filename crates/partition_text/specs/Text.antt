-- The text of a partition: its proxies, its lists and its classes.
use Rattle.std.specs.Prelude.{ℕ, List, ◌++◌, codes}
use Rattle.std.specs.List.{flat_map}
use Rattle.answer_writer.specs.Report.{class_line}
use Rattle.packet_table.specs.declared.channel_spec.Leg.TheVariants.{Reduce, Spread}
use Rattle.graph_model.specs.declared.edge.Way.{Way}
use Rattle.graph_division.specs.Shares.{Share}
use Rattle.graph_division.specs.Partition.{division_of}
use Rattle.graph_division.specs.Classes.{has_out, has_in, has_both, no_mirror}
use Rattle.partition_text.specs.Hosts.{host_text}
use Rattle.partition_text.specs.Lists.{lists_text}

-- whether no mirror has an out-edge on its host, none an in-edge, none both
abbrev pub classes_text : List Share → List ℕ
classes_text shares =
    class_line (codes "no-out") (no_mirror has_out shares)
    ++ (class_line (codes "no-in") (no_mirror has_in shares) ++ class_line (codes "no-both") (no_mirror has_both shares))

-- each host with its proxies, the lists of reductions, those of broadcasts, and the classes
abbrev pub partition_text : Way → List Share → List ℕ
partition_text way shares =
    flat_map (host_text way) shares
    ++ (lists_text Reduce (division_of way shares) ++ (lists_text Spread (division_of way shares) ++ classes_text shares))
