pub mod ReadLemmas
pub mod StayLemmas
