pub mod Causes
pub mod Told
pub mod Answers
pub mod Interrupts
pub mod Pieces
pub mod Memory
pub mod Adapters
