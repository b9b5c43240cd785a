use Rattle.std.proofs.Common.{ap}
use Rattle.run_text.specs.Text.{budget_of}
use Rattle.run_engine.specs.Outcome.{asked_by}
use Rattle.program_runs.specs.declared.program.Program.TheVariants.{Bfs, Sssp, Cc, Kcore}
use Rattle.program_runs.specs.LastRuns.{round_of}
use Rattle.program_runs.proofs.Endings.{comes_to_end, hands_on}
use Rattle.program_runs.proofs.running.run_program.Goals as goal

pub returns-in_ok-ended-in-Bfs-clause-text : goal.returns-in_ok-ended-in-Bfs-clause-text
returns-in_ok-ended-in-Bfs-clause-text g c = λ graph is of.
    let law = c.programs_tell_walks.ensures.bfs (record { root = c.in-Bfs.root }) graph c.args.job.way c.args.graphs.items is c.requires.partition of (asked_by c.args.job) in
    rw c.in-Bfs.is
    (comes_to_end (Bfs c.in-Bfs.root) _ _ _ graph (asked_by c.args.job) c.args.job.way c.args.graphs.items _ (law _)
    _ _ (budget_of c.args.job.rounds graph.nodes) _ _
    c.in_ok-ended-in-Bfs.ensures.ended.has_run.rounds (ap (budget_of c.args.job.rounds) of.nodes) c.in_ok-ended-in-Bfs.ensures.written)

pub returns-in_err-ended-in-Bfs-clause-text : goal.returns-in_err-ended-in-Bfs-clause-text
returns-in_err-ended-in-Bfs-clause-text g c = λ graph is of.
    let law = c.programs_tell_walks.ensures.bfs (record { root = c.in-Bfs.root }) graph c.args.job.way c.args.graphs.items is c.requires.partition of (asked_by c.args.job) in
    rw c.in-Bfs.is
    (hands_on (Bfs c.in-Bfs.root) _ _ _ graph (asked_by c.args.job) c.args.job.way c.args.graphs.items _ (law _)
    (λ ended. ended.finished.rounds) round_of c.run.result c.from_residual.result c.in_err-ended-in-Bfs.field-0.0 (budget_of c.args.job.rounds graph.nodes) _ _
    c.in_err-ended-in-Bfs.was c.from_residual.ensures.1 (ap (budget_of c.args.job.rounds) of.nodes) c.run.ensures.written)

pub returns-in_ok-ended-in-Sssp-clause-text : goal.returns-in_ok-ended-in-Sssp-clause-text
returns-in_ok-ended-in-Sssp-clause-text g c = λ graph is of.
    let law = c.programs_tell_walks.ensures.sssp (record { root = c.in-Sssp.root }) graph c.args.job.way c.args.graphs.items is c.requires.partition of (asked_by c.args.job) in
    rw c.in-Sssp.is
    (comes_to_end (Sssp c.in-Sssp.root) _ _ _ graph (asked_by c.args.job) c.args.job.way c.args.graphs.items _ (law _)
    _ _ (budget_of c.args.job.rounds graph.nodes) _ _
    c.in_ok-ended-in-Sssp.ensures.ended.has_run.rounds (ap (budget_of c.args.job.rounds) of.nodes) c.in_ok-ended-in-Sssp.ensures.written)

pub returns-in_err-ended-in-Sssp-clause-text : goal.returns-in_err-ended-in-Sssp-clause-text
returns-in_err-ended-in-Sssp-clause-text g c = λ graph is of.
    let law = c.programs_tell_walks.ensures.sssp (record { root = c.in-Sssp.root }) graph c.args.job.way c.args.graphs.items is c.requires.partition of (asked_by c.args.job) in
    rw c.in-Sssp.is
    (hands_on (Sssp c.in-Sssp.root) _ _ _ graph (asked_by c.args.job) c.args.job.way c.args.graphs.items _ (law _)
    (λ ended. ended.finished.rounds) round_of c.run-in-Sssp.result c.from_residual-in_err-ended-in-Sssp.result c.in_err-ended-in-Sssp.field-0.0 (budget_of c.args.job.rounds graph.nodes) _ _
    c.in_err-ended-in-Sssp.was c.from_residual-in_err-ended-in-Sssp.ensures.1 (ap (budget_of c.args.job.rounds) of.nodes) c.run-in-Sssp.ensures.written)

pub returns-in_ok-ended-in-Cc-clause-text : goal.returns-in_ok-ended-in-Cc-clause-text
returns-in_ok-ended-in-Cc-clause-text g c = λ graph is of.
    let law = c.programs_tell_walks.ensures.components (record {}) graph c.args.job.way c.args.graphs.items is c.requires.partition of (asked_by c.args.job) in
    rw c.in-Cc.is
    (comes_to_end Cc _ _ _ graph (asked_by c.args.job) c.args.job.way c.args.graphs.items _ (law _)
    _ _ (budget_of c.args.job.rounds graph.nodes) _ _
    c.in_ok-ended-in-Cc.ensures.ended.has_run.rounds (ap (budget_of c.args.job.rounds) of.nodes) c.in_ok-ended-in-Cc.ensures.written)

pub returns-in_err-ended-in-Cc-clause-text : goal.returns-in_err-ended-in-Cc-clause-text
returns-in_err-ended-in-Cc-clause-text g c = λ graph is of.
    let law = c.programs_tell_walks.ensures.components (record {}) graph c.args.job.way c.args.graphs.items is c.requires.partition of (asked_by c.args.job) in
    rw c.in-Cc.is
    (hands_on Cc _ _ _ graph (asked_by c.args.job) c.args.job.way c.args.graphs.items _ (law _)
    (λ ended. ended.finished.rounds) round_of c.run-in-Cc.result c.from_residual-in_err-ended-in-Cc.result c.in_err-ended-in-Cc.field-0.0 (budget_of c.args.job.rounds graph.nodes) _ _
    c.in_err-ended-in-Cc.was c.from_residual-in_err-ended-in-Cc.ensures.1 (ap (budget_of c.args.job.rounds) of.nodes) c.run-in-Cc.ensures.written)

pub returns-in_ok-ended-in-Kcore-clause-text : goal.returns-in_ok-ended-in-Kcore-clause-text
returns-in_ok-ended-in-Kcore-clause-text g c = λ graph is of.
    let law = c.kcore_tells_peeling.ensures (record { k = c.in-Kcore.k }) graph c.args.job.way c.args.graphs.items is c.requires.partition of (asked_by c.args.job) in
    rw c.in-Kcore.is
    (comes_to_end (Kcore c.in-Kcore.k) _ _ _ graph (asked_by c.args.job) c.args.job.way c.args.graphs.items _ (law _)
    _ _ (budget_of c.args.job.rounds graph.nodes) _ _
    c.in_ok-ended-in-Kcore.ensures.ended.has_run.rounds (ap (budget_of c.args.job.rounds) of.nodes) c.in_ok-ended-in-Kcore.ensures.written)

pub returns-in_err-ended-in-Kcore-clause-text : goal.returns-in_err-ended-in-Kcore-clause-text
returns-in_err-ended-in-Kcore-clause-text g c = λ graph is of.
    let law = c.kcore_tells_peeling.ensures (record { k = c.in-Kcore.k }) graph c.args.job.way c.args.graphs.items is c.requires.partition of (asked_by c.args.job) in
    rw c.in-Kcore.is
    (hands_on (Kcore c.in-Kcore.k) _ _ _ graph (asked_by c.args.job) c.args.job.way c.args.graphs.items _ (law _)
    (λ ended. ended.finished.rounds) round_of c.run-in-Kcore.result c.from_residual-in_err-ended-in-Kcore.result c.in_err-ended-in-Kcore.field-0.0 (budget_of c.args.job.rounds graph.nodes) _ _
    c.in_err-ended-in-Kcore.was c.from_residual-in_err-ended-in-Kcore.ensures.1 (ap (budget_of c.args.job.rounds) of.nodes) c.run-in-Kcore.ensures.written)
