-- What the fields of a new table of channels are.
use Rattle.std.specs.Prelude.{◌≡◌, ℕ, ◌<◌, ◌^◌, Bool, false, List, length, sum, replicate, slice_index, refl}
use Rattle.std.proofs.Common.{arith, suc, zero, sym, ap, ◌∙◌}
use Rattle.std.proofs.lemmas.List.{length-replicate}
use Rattle.list_laws.specs.Members.{no_members, count_of}
use Rattle.list_laws.proofs.Members.{members_from-no_members}
use Rattle.packet_table.specs.declared.channel_spec.ChannelSpec.{ChannelSpec}
use Rattle.packet_table.specs.Order.{Rise}
use Rattle.packet_table.specs.Table.{Table, rooms_of, fresh}
use Rattle.packet_table.specs.Block.{cut, AreStarts, table_of, IsLaidOut}
use Rattle.packet_table.proofs.Cuts.{cut-zeros}

-- zeros are zero at each place, and past the end
slice_index-zeros : (n k : ℕ) → slice_index (replicate n 0) k ≡ 0
slice_index-zeros zero k = refl
slice_index-zeros (suc n) zero = refl
slice_index-zeros (suc n) (suc k) = slice_index-zeros n k

module _ (specs : List ChannelSpec) (starts lengths block : List ℕ) (flying : List Bool)
    (no_flight : flying ≡ no_members (length specs)) (no_payload : lengths ≡ replicate (length specs) 0) (zeros : block ≡ replicate (sum (rooms_of specs)) 0) where
  -- they stand for the fresh table
  pub table_of-fresh : table_of specs flying lengths block ≡ fresh specs
  table_of-fresh =
      ap (λ l. table_of specs l lengths block) no_flight
      ∙ ap (λ l. table_of specs (no_members (length specs)) l block) no_payload
      ∙ ap (λ l. let table : Table = record { specs = specs; flying = no_members (length specs); lengths = replicate (length specs) 0; buffers = l } in table)
      (ap (λ l. cut (rooms_of specs) l) zeros ∙ cut-zeros (rooms_of specs) (sum (rooms_of specs)) refl)

  -- and hold a table
  pub laid_fresh : Rise specs → length specs < 2 ^ 32 → sum (rooms_of specs) < 2 ^ 63 → AreStarts (rooms_of specs) starts → IsLaidOut specs starts lengths block flying 0
  laid_fresh rise few bounded started = record {
    rise = rise;
    few = few;
    bounded = bounded;
    started = started;
    fills = ap length zeros ∙ length-replicate (sum (rooms_of specs)) 0;
    payloads = ap length no_payload ∙ length-replicate (length specs) 0;
    fit = λ id. omega (arith, ap (λ l. slice_index l id) no_payload, slice_index-zeros (length specs) id);
    flights = ap length no_flight ∙ length-replicate (length specs) false;
    counted = sym (ap count_of no_flight ∙ ap length (members_from-no_members 0 (length specs)));
  }
