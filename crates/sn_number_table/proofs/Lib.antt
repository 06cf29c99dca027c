pub mod FreeLemmas
pub mod MarkLemmas
pub mod TableLemmas
