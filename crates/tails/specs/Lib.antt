-- The definitions of tails, in reading order.
--     Tail: the table, year by year from T down
--     Words: the lent words after planning, as an equation
--     Cheapest: what the words promise, with no word of the table
--     Cases: the words of document 01's sheets
--     Writing: how the words and the first ends are written
pub mod Tail
pub mod Words
pub mod Cheapest
pub mod Cases
pub mod Writing
