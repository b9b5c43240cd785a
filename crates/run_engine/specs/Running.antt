-- A cluster that has run some rounds of a run.
use Rattle.std.specs.Prelude.{◌≡◌, ◌<◌, ◌≤◌, ◌*◌, ℕ, List}
use Rattle.graph_model.specs.declared.edge.Way.{Way}
use Rattle.graph_division.specs.Division.{whole}
use Rattle.graph_division.specs.Shares.{Share}
use Rattle.lone_rounds.specs.RoundCount.{IsQuietRound, IsRoundCount}
use Rattle.round_packets.specs.Runs.{Run}
use Rattle.cluster_laws.specs.Tally.{packets_of}
use Rattle.round_driver.specs.ClusterState.{ClusterState, StandsNow, shares_of}
use Rattle.run_text.specs.Told.{told_by}
use Rattle.run_text.specs.Text.{bytes_sent}
use Rattle.run_engine.specs.declared.finished.Finished.{Finished}

-- so many rounds are those of a run: the last of them is the first that changes no shown value
abbrev pub TakesRounds : {Item State Shown : Type 0} → Run Item State Shown → (rounds : ℕ) → Type 0
TakesRounds run rounds = IsRoundCount run.reducer run.steps run.division.nodes (whole run.division) rounds

-- each of the first so many rounds of a run changes some shown value
abbrev pub KeepsChanging : {Item State Shown : Type 0} → Run Item State Shown → (rounds : ℕ) → Type 0
KeepsChanging run rounds = (before : ℕ) → before < rounds → IsQuietRound run.reducer run.steps run.division.nodes (whole run.division) before → ⊥

module _ {Program Item State Shown : Type 0} (item_bytes : Item → List ℕ) (shown_bytes : Shown → List ℕ) (run : Run Item State Shown) (program : Program) (way : Way) (shares : List Share) where
  -- a cluster of this program, way and partition, which stands for the moment after its rounds of the run;
  -- and what these came to
  pub record HasRun (cluster : ClusterState Program Item State Shown) (finished : Finished) : Type 0 where
    pub same_shares : shares_of cluster ≡ shares
    pub same_program : cluster.program ≡ program
    pub same_way : cluster.way ≡ way
    pub stands : StandsNow run.reducer run.steps run.item_size run.shown_size item_bytes shown_bytes cluster
    pub rounds : finished.rounds ≡ cluster.round
    pub packets : finished.packets ≡ cluster.round * packets_of run.division
    pub bytes : finished.bytes ≡ bytes_sent run.division (told_by item_bytes shown_bytes run) cluster.round

  -- it has run all rounds of the run, which are no more than it may have
  pub record HasFinished (budget : ℕ) (cluster : ClusterState Program Item State Shown) (finished : Finished) : Type 0 where
    pub has_run : HasRun cluster finished
    pub takes : TakesRounds run cluster.round
    pub within : cluster.round ≤ budget
