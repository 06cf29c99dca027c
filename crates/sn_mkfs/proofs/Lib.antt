pub mod InodeLemmas
pub mod TreeLemmas
pub mod DiskLemmas
pub mod WritingLemmas
