pub mod Changes
pub mod Planned
pub mod Standing
pub mod UnderWay
pub mod Through
pub mod Filter
pub mod Laws
pub mod NameMarks
