-- The definitions of yearbook, in reading order: what the call answers, what is owed of it; the rule of the table; the cases.
pub mod Yearbook
pub mod Promises
pub mod Table
pub mod Cases
