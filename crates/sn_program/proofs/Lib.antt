pub mod AnswerLemmas
pub mod CopyLemmas
pub mod ReaderLemmas
pub mod ServeLemmas
