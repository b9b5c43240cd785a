use Rattle.round_packets.proofs.PacketForms.{reduces_are_forms, broadcasts_are_forms}
use Rattle.round_packets.proofs.laws.packets_are_forms.Goals as goal

pub returns-clause-reduces : goal.returns-clause-reduces
returns-clause-reduces g c = reduces_are_forms g.P.Red.Item.Word.bytes_of

pub returns-clause-broadcasts : goal.returns-clause-broadcasts
returns-clause-broadcasts g c = broadcasts_are_forms g.P.Shown.Word.bytes_of
