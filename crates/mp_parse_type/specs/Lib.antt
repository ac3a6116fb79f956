pub mod Types
pub mod Headings
