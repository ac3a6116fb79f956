pub mod WalkLemmas
pub mod FrameLemmas
