pub mod ChangedLemmas
pub mod HoldsLemmas
pub mod DecidedLemmas
pub mod DroppedLemmas
mod NeedLemmas
