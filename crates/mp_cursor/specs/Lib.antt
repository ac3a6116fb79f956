pub mod Nexts
pub mod Parsers
pub mod Exactness
pub mod Leaves
pub mod LeafTokens
pub mod CursorView
