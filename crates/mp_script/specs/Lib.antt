pub mod Keywords
pub mod Words
pub mod Numbers
pub mod Access
pub mod Meaning
