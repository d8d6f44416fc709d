-- The definitions of costing, in reading order: arcs and which are offered; what costing answers, and its error; what the code asks and where
-- it stands; the sheets of the cases, and the cases.
pub mod Arc
pub mod Offered
pub mod Costing
pub mod Error
pub mod Fit
pub mod Walk
pub mod CaseSheets
pub mod Cases
