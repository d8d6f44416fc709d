-- The laws of costing, in reading order; a file cites only files above it.
--     CaseLaws: document 01's cases 6 to 8, arcs of a sheet whose fields all differ, motors that age, removals, and refusal 13, straight from the definitions
--     SumLaws, SizeLaws, WalkLaws: sums over payments, how large they are, and the walk; the functions of an arc cite them
--     ErrorOfArc: the error of an arc
--     SheetArcLaws: an arc of a sheet
--     OfferedLaws, CostLaws: what `cost` answers
pub mod CaseLaws
pub mod SumLaws
pub mod SizeLaws
pub mod WalkLaws
pub mod ErrorOfArc
pub mod SheetArcLaws
pub mod OfferedLaws
pub mod CostLaws
