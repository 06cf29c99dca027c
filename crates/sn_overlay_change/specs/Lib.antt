pub mod Blocks
pub mod ChangeLayers
pub mod SeenLayers
pub mod Faults
pub mod FirstNames
pub mod Laws
