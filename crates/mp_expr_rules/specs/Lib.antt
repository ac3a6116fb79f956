pub mod Regions
pub mod Judged
pub mod Calling
