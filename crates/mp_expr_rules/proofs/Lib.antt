pub mod PlainTypedLemmas
pub mod StandingLemmas
pub mod ListLemmas
pub mod ComposedLemmas
pub mod VariableLemmas
