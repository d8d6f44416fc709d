-- The definitions of nominal, in reading order: steps and payments in cents; what the code asks; the cases.
pub mod Nominal
pub mod Fit
pub mod Cases
