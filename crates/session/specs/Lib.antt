pub mod Session
pub mod SessionLaws
pub mod Lines
pub mod LinesLaws
pub mod RoomLaws
pub mod LimitLaws
