pub mod Refusals
pub mod Shapes
pub mod Places
pub mod Layout
pub mod Judging
