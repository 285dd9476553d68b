pub mod Rows
pub mod Faults
pub mod Tables
pub mod Conducts
pub mod Marks
pub mod Searches
