pub mod Rows
pub mod Fletcher
pub mod Turning
pub mod Worked
pub mod FletcherLaws
pub mod RowLaws
pub mod TurningLaws
