pub mod Edits
pub mod Versions
pub mod Refusals
pub mod Meant
pub mod Changes
pub mod Pieces
