pub mod CallLemmas
pub mod CrashLemmas
pub mod DiskLemmas
pub mod FillLemmas
pub mod MemoryLemmas
pub mod SectorLemmas
