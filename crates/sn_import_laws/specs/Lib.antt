pub mod Runs
pub mod Trees
pub mod Contents
pub mod Files
pub mod Vacant
pub mod Names
pub mod Rights
pub mod Laws
