pub mod AroundLemmas
pub mod CountLemmas
pub mod FinishLemmas
pub mod FrameLemmas
pub mod LogLemmas
pub mod NextLemmas
pub mod ShowLemmas
pub mod StepLemmas
