pub mod BitsLemmas
pub mod FreeLemmas
pub mod VectorLemmas
