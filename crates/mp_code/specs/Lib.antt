pub mod BlockCode
pub mod Shape
pub mod Reached
pub mod ShapeExamples
pub mod EffectExamples
pub mod Drafts
