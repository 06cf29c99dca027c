pub mod ByteLemmas
pub mod MergeLemmas
pub mod ListingLemmas
