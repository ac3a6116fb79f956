pub mod CompatibleLemmas
pub mod CongruityLemmas
pub mod RequiredLemmas
pub mod AssignableLemmas
pub mod OrdinalLemmas
