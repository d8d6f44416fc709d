-- The definitions of spreading: what falls in a year; words to which it was added, and what the code asks; and the laws of the two ledgers, which
-- the code cites where it gives them.
pub mod Fallen
pub mod Raised
pub mod Asks
pub mod LedgerLaws
