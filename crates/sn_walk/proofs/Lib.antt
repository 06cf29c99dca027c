pub mod ChainLemmas
pub mod PieceLemmas
pub mod LookUpLemmas
pub mod WalkLemmas
