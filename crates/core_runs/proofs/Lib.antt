pub mod CoreRuns
