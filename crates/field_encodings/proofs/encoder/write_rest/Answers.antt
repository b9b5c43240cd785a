use Rattle.std.proofs.Common.{arith, ◌≡◌}
use Rattle.field_encodings.specs.Forms.{names}
use Rattle.field_encodings.proofs.encoder.write_rest.Goals as goal

pub returns-in-0 : goal.returns-in-0
unfolding names
returns-in-0 g c = rw c.in-0.is c.write_all.ensures

pub returns-in-1 : goal.returns-in-1
unfolding names
returns-in-1 g c = rw c.in-1.is c.write_bit_form.ensures

pub returns-in-2 : goal.returns-in-2
unfolding names
returns-in-2 g c = rw c.in-2.is c.write_position_form.ensures

pub returns-in_default : goal.returns-in_default
unfolding names
returns-in_default g c = let three : c.args.tag ≡ 3 = omega arith in rw three c.write_id_form.ensures
