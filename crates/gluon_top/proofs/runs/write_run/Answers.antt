use Rattle.std.proofs.Common.{Ok}
use Rattle.std.proofs.lemmas.Result.{err_from_is_err_and}
use Rattle.run_engine.specs.declared.fault.RunFault.TheVariants.{Spent, Write, Memory}
use Rattle.program_runs.specs.LastRuns.{round_of}
use Rattle.io_edge.specs.Writing.{state_of}
use Rattle.gluon_top.proofs.Running.{divided_as, divided_fault, ended_text, ended_last, spent_text, spent_asks, spent_front, broken_text}
use Rattle.gluon_top.proofs.runs.write_run.Goals as goal

pub returns-in_err-write_spent-in-Err-Spent-clause-written : goal.returns-in_err-write_spent-in-Err-Spent-clause-written
returns-in_err-write_spent-in-Err-Spent-clause-written g c = λ graph fact shared.
    let p = err_from_is_err_and c.from_residual.result c.from_residual.ensures.1 in
    let walks = divided_fault c.args.program c.args.run graph c.in-Err-Spent.field-0 (Spent c.in-Err-Spent.budget) (state_of g.K.Sink c.args.sink.now) (state_of g.K.Sink c.run_program.new.sink) c.args.graphs.items c.in-Err-Spent.field-0-is c.requires.hosts fact shared c.in-Err-Spent.ensures.text in
    rw (p.1, p.2) (spent_front c.args.program c.args.run graph walks.0 walks.1 c.in_err-write_spent-in-Err-Spent.ensures.written.front)

pub returns-in-Ok-clause-written : goal.returns-in-Ok-clause-written
returns-in-Ok-clause-written g c = λ graph fact shared.
    ended_text c.args.program c.args.run graph (round_of c.in-Ok.last) (divided_as c.args.program c.args.run graph (Ok c.in-Ok.last) (state_of g.K.Sink c.args.sink.now) (state_of g.K.Sink c.run_program.new.sink) c.args.graphs.items c.requires.hosts fact shared c.in-Ok.ensures.text)

pub returns-in-Ok-clause-hosts : goal.returns-in-Ok-clause-hosts
returns-in-Ok-clause-hosts g c = λ graph fact shared.
    ended_last c.args.program c.args.run graph _ _ c.args.graphs.items c.in-Ok.last (divided_as c.args.program c.args.run graph (Ok c.in-Ok.last) (state_of g.K.Sink c.args.sink.now) (state_of g.K.Sink c.run_program.new.sink) c.args.graphs.items c.requires.hosts fact shared c.in-Ok.ensures.text) shared c.in-Ok.ensures.last c.in-Ok.ensures.asked

pub returns-in_ok-write_spent-in-Err-Spent-clause-written : goal.returns-in_ok-write_spent-in-Err-Spent-clause-written
returns-in_ok-write_spent-in-Err-Spent-clause-written g c = λ graph fact shared.
    let walks = divided_fault c.args.program c.args.run graph c.in-Err-Spent.field-0 (Spent c.in-Err-Spent.budget) (state_of g.K.Sink c.args.sink.now) (state_of g.K.Sink c.run_program.new.sink) c.args.graphs.items c.in-Err-Spent.field-0-is c.requires.hosts fact shared c.in-Err-Spent.ensures.text in
    spent_text c.args.program c.args.run graph walks.0 walks.1 c.in_ok-write_spent-in-Err-Spent.ensures.written.all

pub returns-in_ok-write_spent-in-Err-Spent-clause-hosts : goal.returns-in_ok-write_spent-in-Err-Spent-clause-hosts
returns-in_ok-write_spent-in-Err-Spent-clause-hosts g c = λ graph fact shared.
    let walks = divided_fault c.args.program c.args.run graph c.in-Err-Spent.field-0 (Spent c.in-Err-Spent.budget) (state_of g.K.Sink c.args.sink.now) (state_of g.K.Sink c.run_program.new.sink) c.args.graphs.items c.in-Err-Spent.field-0-is c.requires.hosts fact shared c.in-Err-Spent.ensures.text in
    spent_asks c.args.program c.args.run graph _ _ c.args.graphs.items c.in-Err-Spent.field-0 c.in-Err-Spent.budget c.in-Err-Spent.field-0-is walks.0 shared c.in-Err-Spent.ensures.asked

pub returns-in-Err-Write-clause-written : goal.returns-in-Err-Write-clause-written
returns-in-Err-Write-clause-written g c = λ graph fact shared.
    broken_text c.args.program c.args.run graph (divided_fault c.args.program c.args.run graph c.in-Err-Write.field-0 (Write) (state_of g.K.Sink c.args.sink.now) (state_of g.K.Sink c.run_program.new.sink) c.args.graphs.items c.in-Err-Write.field-0-is c.requires.hosts fact shared c.in-Err-Write.ensures.text)

pub returns-in-Err-Memory-clause-written : goal.returns-in-Err-Memory-clause-written
returns-in-Err-Memory-clause-written g c = λ graph fact shared.
    divided_fault c.args.program c.args.run graph c.in-Err-Memory.field-0 (Memory) (state_of g.K.Sink c.args.sink.now) (state_of g.K.Sink c.run_program.new.sink) c.args.graphs.items c.in-Err-Memory.field-0-is c.requires.hosts fact shared c.in-Err-Memory.ensures.text
