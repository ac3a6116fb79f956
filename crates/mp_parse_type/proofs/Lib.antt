pub mod LoopLemmas
pub mod RoomLemmas
pub mod Groupings
pub mod SettledLast
pub mod LastLaws
pub mod TypeLaws
pub mod HeadingLaws
