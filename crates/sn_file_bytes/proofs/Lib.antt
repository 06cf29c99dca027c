pub mod ListLemmas
pub mod BlockLemmas
