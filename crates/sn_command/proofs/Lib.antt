pub mod AskLemmas
pub mod LeafLemmas
pub mod Leaves
pub mod NumberLemmas
pub mod TopLemmas
pub mod WalkLemmas
