pub mod SumLemmas
pub mod FieldLemmas
pub mod ValueLemmas
