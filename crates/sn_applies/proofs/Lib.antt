pub mod TestLemmas
pub mod ReadLemmas
pub mod ContentLemmas
pub mod MoveLemmas
