pub mod RecountLemmas
pub mod NamesLemmas
pub mod ListingLemmas
pub mod SeenLemmas
pub mod EntryLemmas
pub mod TallyLemmas
