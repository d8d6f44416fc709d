-- The laws of tails, in reading order; a file cites only files above it.
--     CaseLaws: the words of document 01's sheets, straight from the definitions
--     CheapestLaws: what is promised of year T
--     TailLaws: each entry of the table is the one that document 01 asks
--     WordLaws: what the words have after planning, and what they promise
--     WritingLaws: a list written from T down
--     AheadLaws: the totals behind the ends of an option
--     YearLaws: the choice from a year, by the totals behind its ends, is the table's
--     CountLaws: how many arcs are weighed
pub mod CaseLaws
pub mod CheapestLaws
pub mod TailLaws
pub mod WordLaws
pub mod WritingLaws
pub mod AheadLaws
pub mod YearLaws
pub mod CountLaws
