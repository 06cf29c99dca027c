pub mod MapLemmas
pub mod KeyLemmas
