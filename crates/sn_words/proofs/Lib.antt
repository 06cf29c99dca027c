pub mod Options
pub mod Numbers
pub mod Parts
pub mod Bytes
pub mod FieldLaws
pub mod FlagLaws
pub mod Digits
