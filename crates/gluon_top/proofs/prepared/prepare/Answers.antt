use Rattle.std.proofs.Common.{◌∙◌, ap, map, string_bytes, Some, Err, refl, []}
use Rattle.gluon_top.specs.Meaning.{ran, generated, owned, divided, tried}
use Rattle.std.proofs.lemmas.Result.{err_from_is_err_and}
use Rattle.gluon_top.specs.declared.answers.Answers.TheVariants.{Made, Owned, Divided}
use Rattle.graph_model.specs.declared.edge.Way.{Way}
use Rattle.partition_text.specs.Text.{partition_text}
use Rattle.gr_writer.specs.File.{file_of}
use Rattle.graph_maker.specs.MadeGraph.{made_graph}
use Rattle.gluon_top.proofs.Ranges.{run_in_range, hosts_in_range, proxy_hosts_in_range, size_in_range, trial_in_range}
use Rattle.gluon_top.proofs.Loading.{refused_stops, run_stops, run_ready, graph_made, owners_found, owners_stop, proxies_found, proxies_stop, trial_found}
use Rattle.gluon_top.proofs.prepared.prepare.Goals as goal

pub returns-in_err-program-clause-means : goal.returns-in_err-program-clause-means
returns-in_err-program-clause-means g c =
    let p = err_from_is_err_and c.from_residual.result c.from_residual.ensures.1 in
    rw (p.1, p.2) (refused_stops (map string_bytes c.args.words.now) (g.S.Source.left c.args.source.now) (g.S.Source.left c.args.source.now) c.in_err-program.field-0.0
    c.in_err-program.ensures.faults (λ is. c.in_err-program.ensures.refused (ap Err is)))

pub load_shares-requires : goal.load_shares-requires
load_shares-requires g c =
    (run_in_range (map string_bytes c.args.words.now) c.in-Run.program c.in-Run.run' (c.in_ok-program.ensures.task ∙ ap (λ task. Some task) c.in-Run.is)).hosts

pub returns-in_err-graphs-in-Run-clause-means : goal.returns-in_err-graphs-in-Run-clause-means
returns-in_err-graphs-in-Run-clause-means g c =
    let p = err_from_is_err_and c.from_residual-in_err-graphs-in-Run.result c.from_residual-in_err-graphs-in-Run.ensures.1 in
    rw (p.1, p.2) (run_stops (map string_bytes c.args.words.now) c.in-Run.program c.in-Run.run' (g.S.Source.left c.args.source.now) (g.S.Source.left c.load_shares.new.source) c.in_err-graphs-in-Run.field-0.0
    (c.in_ok-program.ensures.task ∙ ap (λ task. Some task) c.in-Run.is) (rw c.root_of-root.ensures at c.in_err-graphs-in-Run.ensures.means))

pub returns-in_ok-graphs-in-Run-clause-means : goal.returns-in_ok-graphs-in-Run-clause-means
returns-in_ok-graphs-in-Run-clause-means g c =
    run_ready (map string_bytes c.args.words.now) c.in-Run.program c.in-Run.run' (g.S.Source.left c.args.source.now) (g.S.Source.left c.load_shares.new.source) c.in_ok-graphs-in-Run.graphs
    (c.in_ok-program.ensures.task ∙ ap (λ task. Some task) c.in-Run.is) (rw c.root_of-root.ensures at c.in_ok-graphs-in-Run.ensures.means)

pub returns-in_ok-make-in-Make-clause-means : goal.returns-in_ok-make-in-Make-clause-means
returns-in_ok-make-in-Make-clause-means g c =
    graph_made (map string_bytes c.args.words.now) c.in-Make.size c.in-Make.number (g.S.Source.left c.args.source.now) (g.S.Source.left c.args.source.now) (Made c.in_ok-make-in-Make.field-0)
    (c.in_ok-program.ensures.task ∙ ap (λ task. Some task) c.in-Make.is) (ap (file_of 4) c.in_ok-make-in-Make.ensures.made)

pub make-requires-clause-some : goal.make-requires-clause-some
make-requires-clause-some g c =
    (size_in_range (map string_bytes c.args.words.now) c.in-Make.size c.in-Make.number (c.in_ok-program.ensures.task ∙ ap (λ task. Some task) c.in-Make.is)).some

pub make-requires-clause-few : goal.make-requires-clause-few
make-requires-clause-few g c =
    (size_in_range (map string_bytes c.args.words.now) c.in-Make.size c.in-Make.number (c.in_ok-program.ensures.task ∙ ap (λ task. Some task) c.in-Make.is)).few

pub owners-requires : goal.owners-requires
owners-requires g c =
    hosts_in_range (map string_bytes c.args.words.now) c.in-Owners.hosts c.in-Owners.rules (c.in_ok-program.ensures.task ∙ ap (λ task. Some task) c.in-Owners.is)

pub returns-in_err-owned-in-Owners-clause-means : goal.returns-in_err-owned-in-Owners-clause-means
returns-in_err-owned-in-Owners-clause-means g c =
    let p = err_from_is_err_and c.from_residual-in_err-owned-in-Owners.result c.from_residual-in_err-owned-in-Owners.ensures.1 in
    rw (p.1, p.2) (owners_stop (map string_bytes c.args.words.now) c.in-Owners.rules c.in-Owners.hosts (g.S.Source.left c.args.source.now) (g.S.Source.left c.owners.new.source) c.in_err-owned-in-Owners.field-0.0
    (c.in_ok-program.ensures.task ∙ ap (λ task. Some task) c.in-Owners.is) c.in_err-owned-in-Owners.ensures.means)

pub returns-in_ok-owned-in-Owners-clause-means : goal.returns-in_ok-owned-in-Owners-clause-means
returns-in_ok-owned-in-Owners-clause-means g c =
    owners_found (map string_bytes c.args.words.now) c.in-Owners.rules c.in-Owners.hosts (g.S.Source.left c.args.source.now) (g.S.Source.left c.owners.new.source)
    (Owned c.in_ok-owned-in-Owners.owned.0 c.in_ok-owned-in-Owners.owned.1) c.in_ok-owned-in-Owners.owned.0
    (c.in_ok-program.ensures.task ∙ ap (λ task. Some task) c.in-Owners.is) c.in_ok-owned-in-Owners.ensures.text c.in_ok-owned-in-Owners.ensures.means

pub proxies-requires : goal.proxies-requires
proxies-requires g c =
    proxy_hosts_in_range (map string_bytes c.args.words.now) c.in-Proxies.hosts c.in-Proxies.rules c.in-Proxies.way (c.in_ok-program.ensures.task ∙ ap (λ task. Some task) c.in-Proxies.is)

pub returns-in_err-divided-in-Proxies-clause-means : goal.returns-in_err-divided-in-Proxies-clause-means
returns-in_err-divided-in-Proxies-clause-means g c =
    let p = err_from_is_err_and c.from_residual-in_err-divided-in-Proxies.result c.from_residual-in_err-divided-in-Proxies.ensures.1 in
    rw (p.1, p.2) (proxies_stop (map string_bytes c.args.words.now) c.in-Proxies.rules c.in-Proxies.hosts c.in-Proxies.way (g.S.Source.left c.args.source.now) (g.S.Source.left c.proxies.new.source) c.in_err-divided-in-Proxies.field-0.0
    (c.in_ok-program.ensures.task ∙ ap (λ task. Some task) c.in-Proxies.is) c.in_err-divided-in-Proxies.ensures.means)

pub returns-in_ok-divided-in-Proxies-clause-means : goal.returns-in_ok-divided-in-Proxies-clause-means
returns-in_ok-divided-in-Proxies-clause-means g c =
    let divided = c.in_ok-divided-in-Proxies.divided in
    proxies_found (map string_bytes c.args.words.now) c.in-Proxies.rules c.in-Proxies.hosts c.in-Proxies.way (g.S.Source.left c.args.source.now) (g.S.Source.left c.proxies.new.source)
    (Divided divided) divided.graphs.items
    (c.in_ok-program.ensures.task ∙ ap (λ task. Some task) c.in-Proxies.is) (ap (λ (way : Way). partition_text way divided.graphs.items) c.in_ok-divided-in-Proxies.ensures.way) c.in_ok-divided-in-Proxies.ensures.means

pub returns-in_ok-graphs-in-Run-clause-answered : goal.returns-in_ok-graphs-in-Run-clause-answered
returns-in_ok-graphs-in-Run-clause-answered g c =
    let shared = c.in_ok-graphs-in-Run.ensures.shared.1 in
    (ran c.in-Run.program c.in-Run.run' shared.graph [], record { same_program = refl; same_words = refl; is_graph = shared.is_graph; shared_out = shared.shared_out })

pub returns-in_ok-graphs-in-Run-clause-good : goal.returns-in_ok-graphs-in-Run-clause-good
returns-in_ok-graphs-in-Run-clause-good g c =
    let runnable = run_in_range (map string_bytes c.args.words.now) c.in-Run.program c.in-Run.run' (c.in_ok-program.ensures.task ∙ ap (λ task. Some task) c.in-Run.is) in
    record { partition = c.in_ok-graphs-in-Run.ensures.partition; hosts = runnable.hosts; rounds = runnable.rounds }

pub returns-in_ok-make-in-Make-clause-answered : goal.returns-in_ok-make-in-Make-clause-answered
returns-in_ok-make-in-Make-clause-answered g c = (generated c.in_ok-make-in-Make.field-0, refl)

pub returns-in_ok-owned-in-Owners-clause-answered : goal.returns-in_ok-owned-in-Owners-clause-answered
returns-in_ok-owned-in-Owners-clause-answered g c =
    (owned c.in-Owners.rules c.in-Owners.hosts c.in_ok-owned-in-Owners.owned.0 [], c.in_ok-owned-in-Owners.ensures.text)

pub returns-in_ok-divided-in-Proxies-clause-answered : goal.returns-in_ok-divided-in-Proxies-clause-answered
returns-in_ok-divided-in-Proxies-clause-answered g c =
    (divided c.in_ok-divided-in-Proxies.divided.way c.in_ok-divided-in-Proxies.divided.graphs.items [], refl)

pub run_trial-requires : goal.run_trial-requires
run_trial-requires g c =
    let range = trial_in_range (map string_bytes c.args.words.now) c.in-Selfrun.size c.in-Selfrun.number c.in-Selfrun.hosts c.in-Selfrun.rules c.in-Selfrun.order (c.in_ok-program.ensures.task ∙ ap (λ task. Some task) c.in-Selfrun.is) in
    record { some = range.0.some; few = range.0.few; hosts = range.1 }

pub returns-in_ok-trial-in-Selfrun-clause-means : goal.returns-in_ok-trial-in-Selfrun-clause-means
returns-in_ok-trial-in-Selfrun-clause-means g c =
    trial_found (map string_bytes c.args.words.now) c.in-Selfrun.size c.in-Selfrun.number c.in-Selfrun.hosts c.in-Selfrun.rules c.in-Selfrun.order (g.S.Source.left c.args.source.now) (g.S.Source.left c.args.source.now) c.in_ok-trial-in-Selfrun.trial
    (c.in_ok-program.ensures.task ∙ ap (λ task. Some task) c.in-Selfrun.is) c.in_ok-trial-in-Selfrun.ensures.trial

pub returns-in_ok-trial-in-Selfrun-clause-answered : goal.returns-in_ok-trial-in-Selfrun-clause-answered
returns-in_ok-trial-in-Selfrun-clause-answered g c =
    (tried c.in-Selfrun.rules c.in-Selfrun.hosts (made_graph c.in-Selfrun.size c.in-Selfrun.number), (c.in_ok-trial-in-Selfrun.trial, c.in_ok-trial-in-Selfrun.ensures.trial, refl))
