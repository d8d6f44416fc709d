-- The definitions of planner, in reading order.
--     Promises: what is owed of every call, with no word of how the chain is found
--     Ways: the ways in which planning ends
pub mod Promises
pub mod Ways
