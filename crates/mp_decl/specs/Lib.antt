pub mod Judged
pub mod Walks
