mod BlockLemmas
mod ChangeLemmas
mod FillLemmas
mod FilterLemmas
mod MarkLemmas
mod NameLemmas
mod PartLemmas
mod PassLemmas
mod PlannedLemmas
pub mod ReadingLemmas
mod SizeLemmas
mod StandingLemmas
mod ThroughLemmas
mod WayLemmas
