pub mod Forms
pub mod Reading
pub mod Talk
pub mod Top
