pub mod Blocks
pub mod Errors
pub mod Locality
pub mod StoppedParts
