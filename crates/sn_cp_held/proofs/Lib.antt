pub mod BuildLemmas
pub mod EditLemmas
pub mod LaidLemmas
pub mod LiveLemmas
pub mod RecoverLemmas
pub mod RestoreLemmas
pub mod RoomLemmas
pub mod WholeLemmas
