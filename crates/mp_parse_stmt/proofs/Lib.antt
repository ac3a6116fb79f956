pub mod RoomLemmas
pub mod ElseLaws
pub mod ChoiceOrder
pub mod StatementLaws
