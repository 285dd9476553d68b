pub mod Sights
pub mod Show
pub mod Stretches
