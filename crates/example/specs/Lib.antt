pub mod Plain
pub mod Counts
pub mod PlainLaws
