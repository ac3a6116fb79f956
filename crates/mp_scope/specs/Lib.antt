pub mod Kept
pub mod Lent
pub mod Gives
pub mod Laws
pub mod GivesTest
pub mod Examples
