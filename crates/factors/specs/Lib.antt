-- The definitions of factors, in reading order: the factor, and the cases.
pub mod PresentWorth
pub mod Cases
