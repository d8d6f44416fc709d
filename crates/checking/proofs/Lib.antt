-- The laws of checking, in reading order; a file cites only files above it.
--     CaseLaws: sheets at the limits and sheets with two faults, straight from the definitions
--     RuleLaws: the rules on the parsed terms, which the functions of `option` and `check` cite
--     FirstLaws, PassesLaws, RangeLaws: the first of several answers; which sheets pass; the range of an answer
--     CheckLaws: what the check's loops do, which `check` cites
--     FitLaws: for the crates above, what passing gives
pub mod CaseLaws
pub mod RuleLaws
pub mod FirstLaws
pub mod PassesLaws
pub mod RangeLaws
pub mod RowLaws
pub mod CheckLaws
pub mod FitLaws
