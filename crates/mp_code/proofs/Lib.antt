pub mod ShapeLemmas
pub mod CheckLemmas
pub mod ReachedLemmas
