pub mod CausesLemmas
pub mod ToldLemmas
pub mod PiecesLemmas
pub mod InterruptLemmas
