pub mod NameLemmas
pub mod RootLemmas
pub mod ViewLemmas
