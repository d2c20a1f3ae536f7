pub mod NewJobs
