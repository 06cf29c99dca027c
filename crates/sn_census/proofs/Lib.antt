pub mod RowLemmas
pub mod CountLemmas
pub mod SumLemmas
pub mod ClimbLemmas
pub mod FaultLemmas
pub mod ReadLemmas
pub mod LinkLemmas
