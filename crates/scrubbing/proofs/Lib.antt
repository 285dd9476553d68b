pub mod Put
pub mod Refills
pub mod Sweeps
