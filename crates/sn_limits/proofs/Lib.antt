pub mod NameLemmas
pub mod VersionLemmas
