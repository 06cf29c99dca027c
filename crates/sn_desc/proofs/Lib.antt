pub mod KeyLemmas
pub mod SeatLemmas
pub mod HeldLemmas
pub mod ReleaseLemmas
pub mod SessionLemmas
pub mod LogoutLemmas
pub mod OpenLemmas
