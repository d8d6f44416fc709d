-- The definitions of the budget, in reading order: what falls in each year, and what the call answers and leaves; what is owed of it; what the
-- code asks; the cases.
pub mod Budget
pub mod Promises
pub mod Asks
pub mod Cases
