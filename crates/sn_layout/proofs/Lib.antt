pub mod Inserting
pub mod Roots
pub mod Spelled
pub use Rattle.sn_bytes.proofs.Fields
pub use Rattle.sn_bytes.proofs.Reading
pub use Rattle.sn_bytes.proofs.Records
