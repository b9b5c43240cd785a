use Rattle.std.proofs.Common.{◌≡◌, ℕ, ◌<◌}
use Rattle.std.specs.Prelude.{slice_index, vec_len}
use Rattle.packet_table.specs.Table.{rooms_of}
use Rattle.packet_table.specs.Block.{start_of}
use Rattle.packet_table.proofs.layout.lay_out.Given as goal

-- the buffers so far have their starts, and the next one starts at len
abbrev pub invariant-loop-spec : goal.invariant-loop-spec
invariant-loop-spec l = record {
  next : l.len ≡ start_of (rooms_of l.specs) l.spec-index;
  as_many : vec_len l.starts ≡ l.spec-index;
  at : (id : ℕ) → id < l.spec-index → slice_index l.starts.items id ≡ start_of (rooms_of l.specs) id;
}
