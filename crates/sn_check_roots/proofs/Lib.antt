pub mod SetLemmas
pub mod WordLemmas
pub mod RootedLemmas
pub mod FirstLemmas
pub mod SeenLemmas
