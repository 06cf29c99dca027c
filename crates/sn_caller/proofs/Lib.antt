pub mod AskedLemmas
pub mod CallerLemmas
pub mod LiveLemmas
pub mod NumberLemmas
pub mod RestartLemmas
pub mod StepLemmas
pub mod ToldLemmas
