-- The definitions of pricing, in reading order: which plan bytes fit, what pricing answers, and the cases.
pub mod Fitting
pub mod Pricing
pub mod Cases
