use Rattle.std.proofs.Common.{◌≡◌, ◌-◌, map}
use Rattle.std.specs.List.{filter, range_with_len}
use Rattle.proxy_graph.specs.Heads.{vertex_at}
use Rattle.address_memo.specs.Legs.{is_taken}
use Rattle.address_memo.proofs.own_lists.own_list.Given as goal

-- the mirrors so far that take part, and their vertices
abbrev pub invariant-loop-lid : goal.invariant-loop-lid
invariant-loop-lid l = record {
  locals : l.locals.items ≡ filter (λ lid. is_taken l.leg l.way l.graph (vertex_at l.graph lid)) (range_with_len l.first (l.lid - l.first));
  globals : l.globals.items ≡ map (vertex_at l.graph) l.locals.items;
}
