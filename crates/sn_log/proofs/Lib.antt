pub mod AppendLemmas
pub mod ClearLemmas
pub mod HeadLemmas
pub mod LaterLemmas
pub mod LawLemmas
pub mod ReplayLemmas
pub mod SectorLemmas
pub mod WriteLemmas
