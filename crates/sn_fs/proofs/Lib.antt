pub mod LookedLemmas
pub mod MountedLemmas
pub mod PointedLemmas
pub mod ServedLemmas
