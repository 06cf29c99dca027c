pub mod CountedLemmas
pub mod OwnershipLemmas
pub mod MakingLemmas
pub mod SettledLemmas
pub mod RenamingLemmas
pub mod WayLemmas
pub mod WritingLemmas
pub mod NamelessLemmas
