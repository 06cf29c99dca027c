pub mod Marked
pub mod Marks
pub mod Nameless
pub mod Numbers
pub mod Table
