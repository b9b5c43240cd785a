use Rattle.std.proofs.Common.{◌≡◌, ◌≤◌, length}
use Rattle.graph_division.specs.Shares.{masters_here, proxies_here}
use Rattle.graph_division.specs.Classes.{has_out, has_in, has_both}
use Rattle.invariant_probe.specs.Probe.{none_of}
use Rattle.invariant_probe.proofs.Places.{mirrors_below}
use Rattle.invariant_probe.proofs.probe.classes_of.Given as goal

-- what the mirrors so far lack
abbrev pub invariant-loop-lid : goal.invariant-loop-lid
invariant-loop-lid l = record {
  from : length (masters_here l.graph) ≤ l.lid;
  end : l.lid-end ≡ length (proxies_here l.graph);
  within : l.lid ≤ l.lid-end;
  no_out : l.all.no_out ≡ none_of has_out l.graph (mirrors_below l.graph l.lid);
  no_in : l.all.no_in ≡ none_of has_in l.graph (mirrors_below l.graph l.lid);
  no_both : l.all.no_both ≡ none_of has_both l.graph (mirrors_below l.graph l.lid);
}
