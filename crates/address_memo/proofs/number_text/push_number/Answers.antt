use Rattle.std.proofs.Common.{◌≡◌, ◌∙◌, arith}
use Rattle.std.specs.Int.{w32}
use Rattle.std.proofs.lemmas.Grind.{common_steps}
use Rattle.list_laws.specs.LittleEndian.{le_bytes}
use Rattle.list_laws.proofs.WholeNumbers.{to_le_bytes-le}
use Rattle.address_memo.proofs.number_text.push_number.Goals as goal

pub returns : goal.returns
returns c =
    let bytes : c.to_le_bytes.result ≡ le_bytes 4 c.args.number = c.to_le_bytes.ensures ∙ to_le_bytes-le w32 c.args.number in
    grind (arith, common_steps)
