use Rattle.field_encodings.proofs.ReadBack.{forms_read_back}
use Rattle.field_encodings.proofs.OneForm.{one_form}
use Rattle.field_encodings.proofs.CarriedValues.{entries_are_carried}
use Rattle.field_encodings.proofs.FormLength.{forms_have_their_length}
use Rattle.field_encodings.proofs.laws.form_laws.Goals as goal

pub returns-clause-read_back : goal.returns-clause-read_back
returns-clause-read_back g c = forms_read_back _ _ _ _ _ g.met.W.Word.laws

pub returns-clause-one_form : goal.returns-clause-one_form
returns-clause-one_form g c = one_form g.W.Word.IsValue g.W.Word.bytes_of

pub returns-clause-length : goal.returns-clause-length
returns-clause-length g c = forms_have_their_length _ _ _ _ _ g.met.W.Word.laws

pub returns-clause-carried : goal.returns-clause-carried
returns-clause-carried g c = entries_are_carried g.row.W.Denot
