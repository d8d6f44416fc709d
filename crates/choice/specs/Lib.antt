-- The definitions of choice, in reading order.
--     Choice: which of several lists of years is chosen
--     Running: the choice that a loop over end years keeps, and when it is that of a set of lists
--     Table: a table of such choices, filled from T down
pub mod Choice
pub mod Running
pub mod Table
