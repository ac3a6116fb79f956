pub mod CodesLemmas
pub mod ListedLemmas
