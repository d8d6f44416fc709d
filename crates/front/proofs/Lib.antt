-- The laws of front, in reading order; a file cites only files above it.
--     PlannedLaws: the planned chain is the one that document 01 asks
--     TakenLaws: what a choice that has a total has taken
--     KeptLaws: the choice of an end of maintaining or renovating, on the terms of the option
--     RenovationLaws: the totals and ends of renovating, as they are written
--     CountLaws: the arcs of renovating, counted
--     FollowLaws: the ends of the chosen replacements, as they are written
pub mod PlannedLaws
pub mod TakenLaws
pub mod KeptLaws
pub mod RenovationLaws
pub mod CountLaws
pub mod FollowLaws
