pub mod RoomLemmas
pub mod HeldLemmas
pub mod EventLemmas
