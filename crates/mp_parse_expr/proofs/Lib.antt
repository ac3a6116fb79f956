pub mod RoomLemmas
pub mod ExpressionLaws
