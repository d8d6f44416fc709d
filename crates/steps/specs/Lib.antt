-- The definitions of steps, in reading order: one year's step, payments, their exact value and how far from it they may lie; what the code
-- asks; the cases.
pub mod Step
pub mod Payment
pub mod Exact
pub mod Error
pub mod Fit
pub mod Cases
