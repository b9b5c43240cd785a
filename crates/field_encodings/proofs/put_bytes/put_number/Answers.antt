use Rattle.std.proofs.Common.{◌≡◌, ◌+◌, ◌-◌, ℕ, length, take, ◌++◌, arith, ◌∙◌, ap}
use Rattle.std.specs.Int.{w32}
use Rattle.std.proofs.lemmas.Slice.{take-put_mid}
use Rattle.std.proofs.lemmas.List.{length-take, length-drop}
use Rattle.list_laws.specs.LittleEndian.{le_bytes}
use Rattle.list_laws.proofs.LittleEndian.{take-le_bytes}
use Rattle.list_laws.proofs.WholeNumbers.{to_le_bytes-le}
use Rattle.field_encodings.proofs.put_bytes.put_number.Goals as goal

pub returns : goal.returns
returns g c =
    let bytes : c.copy_from_slice.new.self ≡ le_bytes g.row.SIZE c.args.number =
    c.copy_from_slice.ensures.after ∙ ap (λ l. take g.row.SIZE l) (c.to_le_bytes.ensures ∙ to_le_bytes-le w32 c.args.number) ∙ take-le_bytes g.row.SIZE 4 c.args.number c.requires.few in
    let long : length c.copy_from_slice.new.self ≡ g.row.SIZE =
    omega (arith, c.copy_from_slice.ensures.len, length-take {A = ℕ}, length-drop {A = ℕ}) in
    take-put_mid c.args.at (c.args.at + g.row.SIZE - c.args.at) c.args.out.now c.copy_from_slice.new.self (c.args.at + g.row.SIZE) (omega arith) (omega arith)
    ∙ ap (λ bytes. take c.args.at c.args.out.now ++ bytes) bytes
