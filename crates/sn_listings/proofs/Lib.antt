pub mod FittingLemmas
pub mod ReadingLemmas
