-- The definitions of checking, in reading order: refusals 1 to 9, which sheets pass, what passing gives, the sheets of the cases,
-- and the cases.
pub mod Refusals
pub mod Passes
pub mod Fit
pub mod CaseSheets
pub mod Cases
