pub mod CallLaws
pub mod LineLaws
pub mod ScriptLaws
pub mod Printed
