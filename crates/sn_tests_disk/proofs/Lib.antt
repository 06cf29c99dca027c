mod JournalLemmas
pub mod PointLemmas
