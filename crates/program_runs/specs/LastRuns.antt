-- What the cluster of a run stands for after the last round.
use Rattle.std.specs.Prelude.{◌≡◌, ◌^◌, ℕ, List, [], ◌∷◌}
use Rattle.std.specs.Int.{w32, w64, to_le_bytes}
use Rattle.graph_model.specs.declared.edge.Way.{Way}
use Rattle.graph_division.specs.Shares.{Share}
use Rattle.reduce_laws.specs.ReductionLaws.{Reducer}
use Rattle.reduce_laws.specs.ProgramLaws.{Steps}
use Rattle.reduce_laws.specs.Reducers.{least_below, wrapping_sum}
use Rattle.vertex_programs.specs.Programs.{bfs_steps, sssp_steps, cc_steps}
use Rattle.kcore_program.specs.Steps.{core_steps}
use Rattle.round_driver.specs.ClusterState.{ClusterState, StandsNow, shares_of}
use Rattle.program_runs.specs.declared.program.Program.{Program}
use Rattle.program_runs.specs.declared.program.Program.TheVariants as program
use Rattle.program_runs.specs.declared.last_run.LastRun.{LastRun}
use Rattle.program_runs.specs.declared.last_run.LastRun.TheVariants as last

-- how many rounds were run
abbrev pub round_of : LastRun → ℕ
round_of (last.Bfs cluster) = cluster.round
round_of (last.Sssp cluster) = cluster.round
round_of (last.Cc cluster) = cluster.round
round_of (last.Kcore cluster) = cluster.round

-- a cluster of this program, way and partition, which stands for the moment after its rounds, where items and
-- shown values have so many bytes, which are these
pub record IsAfter {Program Item State Shown : Type 0} (reducer : Reducer Item) (steps : Steps Item State Shown) (item_size shown_size : ℕ) (item_bytes : Item → List ℕ) (shown_bytes : Shown → List ℕ) (program : Program) (way : Way) (shares : List Share) (cluster : ClusterState Program Item State Shown) : Type 0 where
  pub same_shares : shares_of cluster ≡ shares
  pub same_program : cluster.program ≡ program
  pub same_way : cluster.way ≡ way
  pub stands : StandsNow reducer steps item_size shown_size item_bytes shown_bytes cluster

-- the cluster is of the program that was run
abbrev pub IsLastRun : Program → Way → List Share → LastRun → Type 0
IsLastRun (program.Bfs root) way shares (last.Bfs cluster) =
    IsAfter (least_below (256 ^ 4)) (bfs_steps root) 4 4 (to_le_bytes w32) (to_le_bytes w32) (record { root = root }) way shares cluster
IsLastRun (program.Sssp root) way shares (last.Sssp cluster) =
    IsAfter (least_below (256 ^ 8)) (sssp_steps root) 8 8 (to_le_bytes w64) (to_le_bytes w64) (record { root = root }) way shares cluster
IsLastRun program.Cc way shares (last.Cc cluster) =
    IsAfter (least_below (256 ^ 4)) cc_steps 4 4 (to_le_bytes w32) (to_le_bytes w32) (record {}) way shares cluster
IsLastRun (program.Kcore k) way shares (last.Kcore cluster) =
    IsAfter wrapping_sum (core_steps k) 4 1 (to_le_bytes w32) (λ mark. mark ∷ []) (record { k = k }) way shares cluster
IsLastRun run way shares other = ⊥
