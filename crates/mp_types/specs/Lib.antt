pub mod Values
pub mod Compatible
pub mod Ordinals
pub mod Examples
