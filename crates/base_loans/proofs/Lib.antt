-- The laws of base_loans.
pub mod Local
pub mod Calls
pub mod Lending
