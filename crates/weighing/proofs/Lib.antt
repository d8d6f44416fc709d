-- The laws of weighing, in reading order; a file cites only files above it.
--     AheadLaws: the total behind an end, with more
--     BestLaws: the running choice on numbers, against that of entries
--     EndLaws: the ends of an option that is kept, on its terms
--     ArcCostLaws: what the arcs of an option cost, by their lengths
--     NextLaws: ends that are not better are passed over
--     SheetEndLaws: what is lent with a sheet; the choice of an end on the terms of an option is the one that the rules give
pub mod AheadLaws
pub mod BestLaws
pub mod EndLaws
pub mod ArcCostLaws
pub mod NextLaws
pub mod SheetEndLaws
