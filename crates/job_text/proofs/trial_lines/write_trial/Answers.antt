use Rattle.io_edge.proofs.Writings.{WroteFront-more, WroteBy-++, WroteBy-err}
use Rattle.job_text.specs.Trials.{program_lines}
use Rattle.job_text.proofs.trial_lines.write_trial.Goals as goal

pub returns-in_err-write_size : goal.returns-in_err-write_size
returns-in_err-write_size g c = record { written = WroteBy-err c.from_residual.ensures.0 (WroteFront-more (program_lines c.args.trial) c.in_err-write_size.ensures.written.front) }

pub returns : goal.returns
returns g c = record { written = WroteBy-++ c.in_ok-write_size.ensures.written.all c.write_programs.ensures.written }
