use Rattle.field_encodings.proofs.SentTag.{sent_tag_is_one}
use Rattle.field_encodings.proofs.laws.one_tag_is_sent.Goals as goal

pub returns : goal.returns
returns c = sent_tag_is_one
