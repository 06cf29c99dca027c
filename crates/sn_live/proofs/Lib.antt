pub mod CountLemmas
pub mod BareLemmas
pub mod NumberLemmas
pub mod LiveLemmas
pub mod DropLemmas
pub mod GoneLemmas
pub mod ListedLemmas
pub mod PointLemmas
