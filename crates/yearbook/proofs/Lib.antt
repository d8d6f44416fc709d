-- The laws of yearbook, in reading order.
--     CaseLaws: a factor and the limits of the refusals, straight from the definitions
--     FactorLaws: what a call answers carries its promises, and packs
--     TableLaws: a table that keeps the step rule has the factor at every row of every rate; `looked_up` cites it
pub mod CaseLaws
pub mod FactorLaws
pub mod TableLaws
