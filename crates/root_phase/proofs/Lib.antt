pub mod RootMeetings
pub mod RootRuns
