pub mod KeptLemmas
pub mod GrownLemmas
pub mod ClosedLemmas
pub mod NestedLemmas
pub mod GivesLemmas
pub mod AnswerLemmas
