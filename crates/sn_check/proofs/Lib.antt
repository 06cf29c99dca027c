pub mod FaultLemmas
pub mod FreeLemmas
pub mod LogLemmas
pub mod VerdictLemmas
