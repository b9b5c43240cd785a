use Rattle.gr_writer.proofs.Again.{file_again}
use Rattle.gr_writer.proofs.read_again.file_is_read_again.Goals as goal

pub returns : goal.returns
returns c = file_again
