pub mod DatesLemmas
pub mod EntryLemmas
