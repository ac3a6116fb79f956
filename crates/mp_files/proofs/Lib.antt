pub mod MarkLemmas
pub mod ItemLemmas
pub mod ReadingLemmas
pub mod FileLemmas
pub mod NumberLemmas
