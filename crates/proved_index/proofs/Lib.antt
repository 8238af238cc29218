-- Theorems about the index.
pub mod Back
pub mod Form
pub mod Found
pub mod Built
pub mod Printed
pub mod Versions
