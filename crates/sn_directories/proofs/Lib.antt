pub mod SeenLemmas
pub mod TellLemmas
pub mod WayLemmas
