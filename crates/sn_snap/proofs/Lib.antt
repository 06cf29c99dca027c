pub mod BitLemmas
pub mod ChangeLemmas
pub mod FindLemmas
pub mod HeldLemmas
pub mod NameLemmas
pub mod SortLemmas
