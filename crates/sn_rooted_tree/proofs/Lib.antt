pub mod CountLemmas
pub mod FrozenLemmas
pub mod ListedLemmas
pub mod LookLemmas
pub mod NamelessLemmas
pub mod SeenLemmas
pub mod NumberingLemmas
