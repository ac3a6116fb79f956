mod MemberLists
mod Lanes
pub mod LaidLemmas
pub mod SetLemmas
pub mod LaidLaw
