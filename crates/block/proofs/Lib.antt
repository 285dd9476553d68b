pub mod LayoutLaws
pub mod OneByte
pub mod UnusedVersions
