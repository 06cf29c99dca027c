pub mod MarkLemmas
pub mod WalkLemmas
pub mod TreeLemmas
