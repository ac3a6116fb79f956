pub mod DepartureLemmas
pub mod ListingLemmas
pub mod ReplyLemmas
pub mod Runs
pub mod SyntaxLemmas
pub mod TextLemmas
pub mod Told
