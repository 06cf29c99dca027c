pub mod ChargeLemmas
pub mod SoundLemmas
pub mod FreeLemmas
pub mod ReachLemmas
pub mod StandingLemmas
pub mod DiskLemmas
pub mod VerdictLemmas
pub mod WorldLemmas
