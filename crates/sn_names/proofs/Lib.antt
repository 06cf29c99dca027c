pub mod SearchLemmas
pub mod PrintLemmas
pub mod ToldLemmas
pub mod LearnLemmas
pub mod BeginLemmas
pub mod ShareLemmas
pub mod IndexesLemmas
