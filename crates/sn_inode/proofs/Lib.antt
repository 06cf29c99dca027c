mod AclLemmas
mod BlockLemmas
mod LentLemmas
mod PlacedLemmas
mod RecordLemmas
mod SettledLemmas
mod WithLemmas
pub mod ChangeLawLemmas
