-- The definitions that the crates above stand on, in reading order: lists, sums over years, numbers in
-- bytes, what a call answers, and lists of cases.
pub mod Lists
pub mod Tally
pub mod Numbers
pub mod Answer
pub mod Outcome
pub mod Cases
