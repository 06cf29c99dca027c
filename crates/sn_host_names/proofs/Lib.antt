pub mod ImageNames
