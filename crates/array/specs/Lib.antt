pub mod Opens
pub mod Jobs
