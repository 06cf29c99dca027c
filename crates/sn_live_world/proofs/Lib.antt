pub mod DropLemmas
pub mod RestoreLemmas
pub mod TurnLemmas
pub mod ChoiceLemmas
pub mod CommitLemmas
mod RefusalLemmas
