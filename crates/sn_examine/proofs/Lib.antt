pub mod ReplayLemmas
pub mod ExamineLemmas
pub mod BothLemmas
pub mod FindLemmas
pub mod RoomLemmas
pub mod ImageLemmas
pub mod TreeLemmas
