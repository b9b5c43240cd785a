pub mod LabelRuns
