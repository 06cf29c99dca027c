pub mod BlockLemmas
pub mod ListedLemmas
pub mod NameLemmas
pub mod ReadingLemmas
pub mod SeenLemmas
