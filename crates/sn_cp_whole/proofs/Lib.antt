mod AskingLemmas
mod GoingLemmas
mod PlanningLemmas
mod PointLemmas
pub mod RecoverLemmas
