pub mod NextLemmas
pub mod NextSets
pub mod Settled
pub mod Recovery
pub mod RuleLaws
pub mod SameRules
pub mod LeafLaws
pub mod ChoiceLaws
pub mod ListLaws
pub mod SeriesLaws
pub mod BlockLaws
pub mod ConstantLaws
pub mod LoopLemmas
mod TokenLemmas
