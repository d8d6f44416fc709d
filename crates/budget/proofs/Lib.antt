-- The laws of the budget, in reading order; a file cites only files above it.
--     CaseLaws: budgets and refusals, straight from the definitions
--     AddsLaws: the payments of a chain, and that the words of all years add up to its rounded total
--     FillLaws: what the loops over a chain's arcs do to the words
--     EndedLaws: what `budget` answers and leaves, and its promises
pub mod CaseLaws
pub mod AddsLaws
pub mod FillLaws
pub mod EndedLaws
