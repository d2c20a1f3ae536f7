pub mod PhaseRuns
