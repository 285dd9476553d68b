pub mod Rows
pub mod MaskLaws
pub mod Leads
pub mod Views
pub mod OnShelf
