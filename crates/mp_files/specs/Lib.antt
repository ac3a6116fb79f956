pub mod Items
pub mod TextFiles
pub mod WrittenFields
pub mod RunFiles
pub mod Stored
pub mod Examples
