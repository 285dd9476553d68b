pub mod View
pub mod Masks
pub mod Judge
pub mod Findings
pub mod Mend
pub mod Renew
pub mod Survey
