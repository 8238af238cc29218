-- Laws about well-formed tables: what decides, and that their rows are shaped.
pub mod Decide
pub mod Shape
