pub mod Departure
pub mod Listing
pub mod Replies
pub mod Transcript
pub mod Lines
pub mod Turns
pub mod Outside
