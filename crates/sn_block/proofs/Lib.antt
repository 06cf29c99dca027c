pub mod BlockLemmas
pub mod CacheLemmas
pub mod CountLemmas
pub mod EffectLemmas
pub mod StretchLemmas
pub mod TellLemmas
