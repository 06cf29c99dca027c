pub mod BlockLemmas
pub mod DeviceLemmas
pub mod InodeLemmas
pub mod NameLemmas
pub mod RecordLemmas
pub mod RootLemmas
pub mod SoundLemmas
pub mod WrongLemmas
